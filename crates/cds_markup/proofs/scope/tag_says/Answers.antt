-- Without a prefix, the attributes were compared already.
use Rattle.std.proofs.Common.{◌∷◌, sym, ap, ◌∙◌}
use Rattle.cds_markup.specs.Bytes.{scopes_in}
use Rattle.cds_markup.specs.Namespaces.{no_attr_twice, no_name_twice}
use Rattle.std.specs.List.{list_any}
use Rattle.cds_markup.specs.NamesSeen.{is_prefixed}
use Rattle.cds_markup.proofs.Unprefixed.{names-differ}
use Rattle.cds_markup.proofs.scope.tag_says.Goals as goal

pub no_name_twice-requires : goal.no_name_twice-requires
no_name_twice-requires c e =
    ap no_name_twice c.as_slice-3.ensures
    ∙ names-differ (c.args.inner.now ∷ scopes_in c.args.opens.now) c.args.attrs c.in-Some-2.attrs (ap (list_any is_prefixed) (sym c.as_slice-2.ensures) ∙ sym c.has_prefixed-used.ensures ∙ e)
    (ap no_attr_twice (sym c.as_slice-else-not-are_sound.ensures) ∙ sym c.in_ok-no_attr_twice.ensures ∙ c.if-not-branch.false) (sym c.in_ok-attrs.ensures ∙ c.in-Some-2.is)
