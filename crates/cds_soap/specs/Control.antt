-- What a message asks for, by its field SOAPACTION and its body alone (UPnP Device Architecture 2.0 on control).
use Rattle.std.specs.Prelude.{◌≡◌, ◌≢◌, ℕ, IsTrue, Option, Some, None, option_map, Result, Ok, Err, List, codes, ⊤}
use Rattle.http_header.specs.HeaderMap.{Entries, get}
use Rattle.http_header.specs.FieldValue.{FieldValue}
use Rattle.cds_http.specs.declared.message.Message.{Message}
use Rattle.cds_markup.specs.declared.error.MarkupError.TheVariants.{Mem as NoMemory}
use Rattle.cds_markup.specs.Document.{Meaning, Doc}
use Rattle.cds_markup.specs.Refusal.{IsRefused}
use Rattle.cds_markup.specs.Children.{is_named}
use Rattle.cds_soap.specs.declared.action.ActionName.{ActionName}
use Rattle.cds_soap.specs.declared.action.Action.{Action}
use Rattle.cds_soap.specs.declared.action.Asked.{Asked}
use Rattle.cds_soap.specs.declared.error.SoapError.{SoapError}
use Rattle.cds_soap.specs.declared.error.SoapError.TheVariants.{Markup, InvalidAction, InvalidArgs, NotAnswer, Mem}
use Rattle.cds_soap.specs.Names.{IsVersion, IsSoapAction, service_type, named_as}
use Rattle.cds_soap.specs.Envelope.{in_envelope}
use Rattle.cds_soap.specs.Given.{action_given}

-- The first value of SOAPACTION.
abbrev pub soap_action_in : Entries FieldValue → Option (List ℕ)
soap_action_in fields = option_map (λ value. value.bytes) (get fields (codes "soapaction"))

-- The one element in the Body of an envelope has the name of an action in the namespace of a version.
pub record Calls (element : Meaning) (action_name : ActionName) (version : ℕ) (call : Meaning) : Type 0 where
  pub spoken : IsVersion version
  pub inside : in_envelope element ≡ Some call
  pub named : IsTrue (is_named (service_type version) (named_as action_name) call)

-- The fields of a message name that action in that version, too. The body of the message is a document of this element.
pub record Names (fields : Entries FieldValue) (element : Meaning) (action_name : ActionName) (version : ℕ) (call : Meaning) : Type 0 where
  pub calls : Calls element action_name version call
  pub field : List ℕ
  pub field_is : soap_action_in fields ≡ Some field
  pub field_names : IsSoapAction field version action_name

-- A message asks for the action with its arguments.
pub record Asks (m : Message) (element : Meaning) (action : Action) (version : ℕ) : Type 0 where
  pub action_name : ActionName
  pub call : Meaning
  pub names : Names m.fields element action_name version call
  pub arguments : action_given action_name call ≡ Some action

-- The message asks for an action in a version.
abbrev pub Control : Message → Action → ℕ → Type 0
Control m action version = (element : Meaning) × Doc m.body element × Asks m element action version

-- The body of the message is a document, and the message names no action.
abbrev pub NamesNone : Message → Type 0
NamesNone m =
    (element : Meaning) × Doc m.body element
    × ((action_name : ActionName) (version : ℕ) (call : Meaning) → ¬ (Names m.fields element action_name version call))

-- The body of the message is a document, and the message names an action. The arguments are not those of this action.
pub record GivesNone (m : Message) : Type 0 where
  pub element : Meaning
  pub document : Doc m.body element
  pub action_name : ActionName
  pub version : ℕ
  pub call : Meaning
  pub names : Names m.fields element action_name version call
  pub arguments : action_given action_name call ≡ None

-- What is answered to a message. If memory runs out, that says nothing of it.
abbrev pub AnswersAsk : Message → Result Asked SoapError → Type 0
AnswersAsk m (Ok asked) = Control m asked.action asked.version
AnswersAsk m (Err (Markup refusal)) = IsRefused m.body refusal × (refusal ≢ NoMemory)
AnswersAsk m (Err InvalidAction) = NamesNone m
AnswersAsk m (Err InvalidArgs) = GivesNone m
AnswersAsk m (Err NotAnswer) = ⊥
AnswersAsk m (Err Mem) = ⊤
