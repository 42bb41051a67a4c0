-- One more character appends its escaped text.
use Rattle.std.proofs.Common.{◌++◌, [], ◌∷◌, encode_utf8, sym, ap, ◌∙◌}
use Rattle.std.proofs.lemmas.List.{append-nil}
use Rattle.std.proofs.lemmas.Grind.{flat_map-append}
use Rattle.std.proofs.lemmas.Str.{encodes-append}
use Rattle.std.specs.Str.{encode_utf8_all}
use Rattle.cds_base.specs.Escape.{escaped, escaped_byte}
use Rattle.cds_base.proofs.text.escaping.escaped_text.Goals as goal

pub loop-c-preserved : goal.loop-c-preserved
loop-c-preserved c =
    let so_far = c.loop-c.yielded in
    let one = encode_utf8 c.in-Some.c in
    c.in_ok-push_escaped.ensures
    ∙ ap (λ front. front ++ escaped one) c.loop-c.invariant
    ∙ sym (flat_map-append escaped_byte (encode_utf8_all so_far) one)
    ∙ ap (λ bytes. escaped (encode_utf8_all so_far ++ bytes)) (sym (append-nil one))
    ∙ ap escaped (sym (encodes-append so_far (c.in-Some.c ∷ [])))
