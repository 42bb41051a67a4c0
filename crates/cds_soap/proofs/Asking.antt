-- What is answered to a body that is no document.
use Rattle.std.proofs.Common.{◌≡◌, Result, Ok, Err, sym, subst}
use Rattle.cds_markup.specs.declared.error.MarkupError.{MarkupError}
use Rattle.cds_markup.specs.declared.error.MarkupError.TheVariants.{Bad, TooDeep, TooLong, Failed, Mem as NoMemory}
use Rattle.cds_markup.specs.Decided.{Decides}
use Rattle.cds_http.specs.declared.message.Message.{Message}
use Rattle.cds_soap.specs.declared.error.SoapError.{SoapError}
use Rattle.cds_soap.specs.Control.{AnswersAsk}
use Rattle.cds_soap.specs.Found.{refusal_of}

refused-by : (m : Message) (refusal : MarkupError) → Decides m.body (Err refusal) → AnswersAsk m (Err (refusal_of refusal))
refused-by m (Bad at) decides = (decides.0, λ h. cc)
refused-by m (TooDeep at) decides = (decides.0, λ h. cc)
refused-by m TooLong decides = (decides.0, λ h. cc)
refused-by m Failed decides = (decides.0, λ h. cc)
refused-by m NoMemory decides = tt

pub refused-answers : (m : Message) (refusal : MarkupError) (e : SoapError) → e ≡ refusal_of refusal → Decides m.body (Err refusal) → AnswersAsk m (Err e)
refused-answers m refusal e is decides = subst (λ x. AnswersAsk m (Err x)) (sym is) (refused-by m refusal decides)
