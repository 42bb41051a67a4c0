-- One attribute behind the other.
use Rattle.std.proofs.Common.{◌++◌, codes, string_bytes, ap, ◌∙◌, append_assoc}
use Rattle.cds_object.specs.Writing.{attribute, number_attribute}
use Rattle.cds_lastchange.specs.Spelled.{class_text, added_text}
use Rattle.cds_lastchange.proofs.write.put_added.Goals as goal

pub returns : goal.returns
unfolding added_text
returns c =
    c.in_ok-put_attribute.ensures
    ∙ ap (λ text. string_bytes c.put_number_attribute.new.out ++ attribute (codes "objClass") text) c.class_text.ensures
    ∙ ap (λ front. front ++ attribute (codes "objClass") (class_text c.args.class)) c.in_ok-put_number_attribute.ensures
    ∙ ap (λ n. (string_bytes c.args.out.now ++ number_attribute (codes "objParentID") n) ++ attribute (codes "objClass") (class_text c.args.class)) c.from.ensures
    ∙ append_assoc (string_bytes c.args.out.now) (number_attribute (codes "objParentID") c.args.parent) (attribute (codes "objClass") (class_text c.args.class))
