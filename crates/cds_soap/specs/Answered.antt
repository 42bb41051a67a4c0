-- What a reply answers to an action (UPnP Device Architecture 2.0 on the responses and errors of control; SOAP 1.1 on Fault).
use Rattle.std.specs.Prelude.{◌≡◌, ◌^◌, ℕ, IsTrue, Option, Some, None, Result, Ok, Err, List, [], codes, ⊤}
use Rattle.std.specs.Option.{option_and_then}
use Rattle.cds_markup.specs.Document.{Meaning, Doc}
use Rattle.cds_markup.specs.Children.{nodes_in, is_named, named, only_of}
use Rattle.cds_http.specs.declared.message.Side.TheVariants.{Reply}
use Rattle.cds_http.specs.declared.message.Start.{Start}
use Rattle.cds_http.specs.declared.message.Start.TheVariants.{Request as of_request, Reply as of_reply}
use Rattle.cds_http.specs.declared.message.Message.{Message}
use Rattle.cds_http.specs.Spelled.{IsMessage}
use Rattle.cds_soap.specs.declared.action.ActionName.{ActionName}
use Rattle.cds_soap.specs.declared.action.Action.{Action}
use Rattle.cds_soap.specs.declared.answer.Answer.{Answer}
use Rattle.cds_soap.specs.declared.answer.Answer.TheVariants as answer
use Rattle.cds_soap.specs.declared.error.SoapError.{SoapError}
use Rattle.cds_soap.specs.declared.error.SoapError.TheVariants.{Markup, InvalidAction, InvalidArgs, NotAnswer, Mem}
use Rattle.cds_soap.specs.Names.{name_of_action, response_to, IsVersion, service_type}
use Rattle.cds_soap.specs.Envelope.{in_envelope, where_of_envelope, ◌>>=◌}
use Rattle.cds_soap.specs.Given.{own_text, number_in, results_given}

unfoldable pub control_space : List ℕ
control_space = codes "urn:schemas-upnp-org:control-1-0"

-- The code of an error in its Fault: `detail` is in no namespace, and the elements in it are in the namespace of
-- control.
unfoldable pub code_in : Meaning → Option ℕ
code_in fault = do
  detail ← only_of (named [] (codes "detail") (nodes_in fault))
  error ← only_of (named control_space (codes "UPnPError") (nodes_in detail))
  code ← only_of (named control_space (codes "errorCode") (nodes_in error))
  number_in (2 ^ 16) (own_text code)

-- The envelope holds a Fault with this code.
pub record Faults (element : Meaning) (code : ℕ) : Type 0 where
  pub fault : Meaning
  pub inside : option_and_then (where_of_envelope (codes "Fault")) (in_envelope element) ≡ Some fault
  pub code_is : code_in fault ≡ Some code

-- The envelope holds the answer to an action, in some version of the service, with these results.
pub record Results (element : Meaning) (action_name : ActionName) (answer : Answer) : Type 0 where
  pub version : ℕ
  pub spoken : IsVersion version
  pub response : Meaning
  pub inside : in_envelope element ≡ Some response
  pub named : IsTrue (is_named (service_type version) (response_to action_name) response)
  pub results : results_given action_name response ≡ Some answer

-- A reply of status 200 answers with results, and one of status 500 with a fault.
abbrev pub Says : Start → Meaning → ActionName → Answer → Type 0
Says (of_request method target) element action_name answer = ⊥
Says (of_reply status) element action_name (answer.Page result returned total update) =
    (status ≡ 200) × Results element action_name (answer.Page result returned total update)
Says (of_reply status) element action_name (answer.Number number) = (status ≡ 200) × Results element action_name (answer.Number number)
Says (of_reply status) element action_name (answer.Text text) = (status ≡ 200) × Results element action_name (answer.Text text)
Says (of_reply status) element action_name (answer.Fault code) = (status ≡ 500) × Faults element code

-- The message is a reply that answers the action.
abbrev pub Answered : Message → Action → Answer → Type 0
Answered m action answer = (element : Meaning) × Doc m.body element × Says m.start element (name_of_action action) answer

-- The bytes are a reply that answers the action, and after it anything.
abbrev pub AnsweredIn : List ℕ → Action → Answer → Type 0
AnsweredIn bytes action answer = (m : Message) × (n : ℕ) × IsMessage Reply bytes m n × Answered m action answer

-- What is made of the bytes of a reply. If memory runs out, that says nothing of them.
abbrev pub AnswersReply : List ℕ → Action → Result Answer SoapError → Type 0
AnswersReply bytes action (Ok answer) = AnsweredIn bytes action answer
AnswersReply bytes action (Err NotAnswer) = (answer : Answer) → ¬ (AnsweredIn bytes action answer)
AnswersReply bytes action (Err (Markup refusal)) = ⊥
AnswersReply bytes action (Err InvalidAction) = ⊥
AnswersReply bytes action (Err InvalidArgs) = ⊥
AnswersReply bytes action (Err Mem) = ⊤
