use Rattle.std.proofs.Common.{Err, subst}
use Rattle.cds_markup.specs.Decided.{Decides}
use Rattle.cds_markup.specs.Document.{Doc}
use Rattle.cds_markup.specs.Outline.{DecidesOutline}
use Rattle.cds_soap.proofs.Asking.{refused-answers}
use Rattle.cds_soap.proofs.ask.read_action.Goals as goal

pub returns-in-Err : goal.returns-in-Err
returns-in-Err c =
    let refusal = c.in-Err.refusal in
    let read = subst (λ r. DecidesOutline 7 3 c.as_slice.result.now r) c.in-Err.is c.read_outline.ensures in
    refused-answers c.args.message.now refusal c.refusal_of.result c.refusal_of.ensures (subst (λ b. Decides b (Err refusal)) c.as_slice.ensures read)

pub asked_in-requires : goal.asked_in-requires
asked_in-requires c =
    let read = subst (λ r. DecidesOutline 7 3 c.as_slice.result.now r) c.in-Ok.is c.read_outline.ensures in
    record { seen = (read.0, subst (λ b. Doc b read.0) c.as_slice.ensures read.1.0, read.2) }
