-- What is found in a message, as functions. They say step by step what the relations say.
use Rattle.std.specs.Prelude.{◌≡◌, ◌==◌, ℕ, Bool, false, not, ◌||◌, ◌&&◌, is_some, if◌then◌else◌, Option, Some, None, option_map, List, codes}
use Rattle.std.specs.Str.{bytes_eq}
use Rattle.http_header.specs.HeaderMap.{Entries}
use Rattle.http_header.specs.FieldValue.{FieldValue}
use Rattle.cds_http.specs.declared.message.Side.TheVariants.{Reply}
use Rattle.cds_http.specs.declared.message.Message.{Message}
use Rattle.cds_http.specs.Spelled.{IsMessage}
use Rattle.cds_markup.specs.declared.error.MarkupError.{MarkupError}
use Rattle.cds_markup.specs.declared.error.MarkupError.TheVariants as markup
use Rattle.cds_soap.specs.declared.error.SoapError.{SoapError}
use Rattle.cds_soap.specs.declared.error.SoapError.TheVariants as error
use Rattle.cds_markup.specs.declared.element.Node.{Node}
use Rattle.cds_markup.specs.declared.element.Node.TheVariants as node
use Rattle.cds_markup.specs.Document.{Meaning, Doc}
use Rattle.cds_markup.specs.Children.{name_of, is_called}
use Rattle.cds_markup.specs.Outline.{outline}
use Rattle.cds_soap.specs.declared.action.ActionName.{ActionName}
use Rattle.cds_soap.specs.declared.action.ActionName.TheVariants as name
use Rattle.cds_soap.specs.declared.action.Action.{Action}
use Rattle.cds_soap.specs.declared.answer.Answer.{Answer}
use Rattle.cds_soap.specs.declared.answer.Answer.TheVariants as answer
use Rattle.cds_soap.specs.Names.{soap_action, in_quotes, response_to}
use Rattle.cds_soap.specs.Envelope.{in_envelope, where_of_envelope, ◌>>=◌}
use Rattle.cds_soap.specs.Given.{results_given, is_argument}
use Rattle.cds_soap.specs.Control.{soap_action_in}
use Rattle.cds_soap.specs.Answered.{Answered, code_in}

-- The action of a name, the version of a type, and whether SOAPACTION says an action in a version.
unfoldable pub name_in : List ℕ → Option ActionName
name_in local =
    if bytes_eq local (codes "Browse") then Some name.Browse
    else if bytes_eq local (codes "Search") then Some name.Search
    else if bytes_eq local (codes "GetSystemUpdateID") then Some name.GetSystemUpdateId
    else if bytes_eq local (codes "GetServiceResetToken") then Some name.GetServiceResetToken
    else if bytes_eq local (codes "GetSearchCapabilities") then Some name.GetSearchCapabilities
    else if bytes_eq local (codes "GetSortCapabilities") then Some name.GetSortCapabilities
    else None

unfoldable pub version_in : List ℕ → Option ℕ
version_in space =
    if bytes_eq space (codes "urn:schemas-upnp-org:service:ContentDirectory:1") then Some 1
    else if bytes_eq space (codes "urn:schemas-upnp-org:service:ContentDirectory:2") then Some 2
    else if bytes_eq space (codes "urn:schemas-upnp-org:service:ContentDirectory:3") then Some 3
    else if bytes_eq space (codes "urn:schemas-upnp-org:service:ContentDirectory:4") then Some 4
    else None

abbrev pub says_action : List ℕ → ℕ → ActionName → Bool
says_action text version action_name =
    bytes_eq text (soap_action version action_name) || bytes_eq text (in_quotes (soap_action version action_name))

-- The element of an action in a version.
pub record Found : Type 0 where
  pub name : ActionName
  pub version : ℕ
  pub call : Meaning

abbrev pub found_as : ActionName → ℕ → Meaning → Found
found_as action_name version call = record { name = action_name; version = version; call = call }

unfoldable pub called_by : Meaning → Option Found
called_by element = do
  call ← in_envelope element
  action_name ← name_in (name_of call).local
  version ← version_in (name_of call).space
  Some (found_as action_name version call)

abbrev pub where_said : List ℕ → Found → Option Found
where_said field found = if says_action field found.version found.name then Some found else None

unfoldable pub named_by : Entries FieldValue → Meaning → Option Found
named_by fields element = do
  field ← soap_action_in fields
  found ← called_by element
  where_said field found

-- What is looked at in a request: the envelope, its Header and Body, the action, and its arguments. Of each element at most seven
-- child elements are looked at, one more than any action has arguments.
abbrev pub looked_at : Meaning → Meaning
looked_at element = outline 7 3 element

-- This is looked at in the element that bytes are a document of.
abbrev pub IsLookedAt : List ℕ → Meaning → Type 0
IsLookedAt bytes seen = (element : Meaning) × Doc bytes element × (seen ≡ looked_at element)

-- What an element says as the response to an action, and as a Fault.
abbrev pub response_by : ActionName → Meaning → Option Answer
response_by action_name element =
    if is_called (response_to action_name) element && is_some (version_in (name_of element).space) then results_given action_name element
    else None

abbrev pub code_answered : Option ℕ → Option Answer
code_answered code = option_map answer.Fault code

unfoldable pub fault_by : Meaning → Option Answer
fault_by element = do
  fault ← where_of_envelope (codes "Fault") element
  code_answered (code_in fault)

-- What a reply of a status says.
abbrev pub inside_by : ActionName → ℕ → Meaning → Option Answer
inside_by action_name status element =
    if status == 200 then response_by action_name element else if status == 500 then fault_by element else None

unfoldable pub said_by : ActionName → ℕ → Meaning → Option Answer
said_by action_name status element = do
  inside ← in_envelope element
  inside_by action_name status inside

-- The reply that was found at the start of bytes, and the answer that was found in a reply.
abbrev pub IsReplyIn : List ℕ → Option Message → Type 0
IsReplyIn bytes (Some m) = (n : ℕ) × IsMessage Reply bytes m n
IsReplyIn bytes None = (m : Message) (n : ℕ) → ¬ (IsMessage Reply bytes m n)

abbrev pub IsAnswerIn : Message → Action → Option Answer → Type 0
IsAnswerIn m action (Some given) = Answered m action given
IsAnswerIn m action None = (given : Answer) → ¬ (Answered m action given)

-- A node is an element that is no argument of an action.
abbrev pub is_other : ActionName → Node → Bool
is_other action_name (node.Text text) = false
is_other action_name (node.Child child) = not (is_argument action_name child)

-- The refusal of a body that is no document.
abbrev pub refusal_of : MarkupError → SoapError
refusal_of markup.Mem = error.Mem
refusal_of refusal = error.Markup refusal
