use Rattle.std.proofs.Common.{Err, subst, sym, ◌∙◌}
use Rattle.cds_notify.specs.Reading.{BodyTold}
use Rattle.cds_notify.proofs.Reading.{heading-refused, body-refused}
use Rattle.cds_notify.proofs.read.read_notify.Goals as goal

pub returns-in-Err : goal.returns-in-Err
returns-in-Err c = heading-refused c.args.message.now c.in-Err.refusal (sym c.heading_of.ensures ∙ c.in-Err.is)

pub returns-in-Err-content_of : goal.returns-in-Err-content_of
returns-in-Err-content_of c =
    body-refused c.args.message.now c.in-Ok.heading c.in-Err-content_of.refusal (sym c.heading_of.ensures ∙ c.in-Ok.is)
    (subst (λ b. BodyTold b (Err c.in-Err-content_of.refusal)) c.as_slice.ensures c.in-Err-content_of.ensures)
