-- The one reply to a control request, by what is published (UPnP Device Architecture 2.0 on control; UPnP ContentDirectory:4).
use Rattle.std.specs.Prelude.{◌≡◌, ℕ, List, [], None, Result, Ok, Err}
use Rattle.cds_http.specs.declared.message.Message.{Message}
use Rattle.cds_http.specs.Written.{written_reply}
use Rattle.cds_soap.specs.declared.action.Asked.{Asked}
use Rattle.cds_soap.specs.declared.error.SoapError.{SoapError}
use Rattle.cds_soap.specs.declared.error.SoapError.TheVariants.{Markup, InvalidAction, InvalidArgs, NotAnswer, Mem}
use Rattle.cds_soap.specs.Control.{AnswersAsk}
use Rattle.cds_soap.specs.Written.{enveloped, fault_text, answer_fields, written_answer}
use Rattle.cds_control.specs.declared.request.Request.{Request}
use Rattle.cds_control.specs.declared.request.Request.TheVariants.{Asks, Refused}
use Rattle.cds_control.specs.Published.{Published}
use Rattle.cds_control.specs.Answering.{answer_to}

-- a reply without a body
abbrev pub empty_reply : ℕ → List ℕ
empty_reply status = written_reply status [] []

-- a reply with a fault, the same for every action and version
abbrev pub fault_reply : ℕ → List ℕ
fault_reply code = written_reply 500 (answer_fields None) (enveloped (fault_text code))

-- A text replies to what was read of a control request. An action is answered in the version that was asked. If the body is no
-- document, the request is bad. If it names no action or has other arguments, the answer is a fault.
abbrev pub IsReplyTo : Published → List ℕ → Result Asked SoapError → List ℕ → Type 0
IsReplyTo published host (Ok asked) text =
    text ≡ written_answer asked.action asked.version (answer_to published host asked.action) None
IsReplyTo published host (Err (Markup refusal)) text = text ≡ empty_reply 400
IsReplyTo published host (Err InvalidAction) text = text ≡ fault_reply 401
IsReplyTo published host (Err InvalidArgs) text = text ≡ fault_reply 402
IsReplyTo published host (Err NotAnswer) text = ⊥
IsReplyTo published host (Err Mem) text = ⊥

-- The text replies to a control request: to what the message asks, if the tracks are at this host.
abbrev pub IsControlReply : Published → List ℕ → Message → List ℕ → Type 0
IsControlReply published host m text = (read : Result Asked SoapError) × AnswersAsk m read × IsReplyTo published host read text

-- What a control request asks. If it asks for no action, the reply is the same whatever is published.
abbrev pub IsRequest : Message → Request → Type 0
IsRequest m (Asks asked) = AnswersAsk m (Ok asked)
IsRequest m (Refused text) = (published : Published) (host : List ℕ) → IsControlReply published host m text
