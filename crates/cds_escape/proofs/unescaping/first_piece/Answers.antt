-- An `&` that begins no reference.
use Rattle.std.proofs.Common.{refl, sym, ◌∙◌, ap, ◌++◌, encode_utf8}
use Rattle.cds_escape.proofs.Pieces.{bad_reference_here}
use Rattle.cds_escape.proofs.unescaping.first_piece.Goals as goal

pub returns-in-None-clause-err : goal.returns-in-None-clause-err
returns-in-None-clause-err c =
    let text =
    sym c.chars-rest.ensures.rest
    ∙ c.in-Some-eq38.ensures.steps.0
    ∙ ap (λ x. encode_utf8 x ++ c.next.new.self.rest.now) c.in-Some-eq38.field-0-test
    ∙ ap (λ x. encode_utf8 38 ++ x) (sym c.as_str.ensures) in
    (refl, bad_reference_here c.args.text.now c.as_str.result.now text c.in-None.ensures)
