-- Laws of what is read and written.
use Rattle.std.specs.Prelude.{◌≡◌, ◌≢◌, ◌==◌, ◌≤◌, ◌<◌, ◌^◌, ℕ, Bool, ◌&&◌, ◌||◌, nat_le, IsTrue, Option, Some, None, option_map, Result, Ok, Err, List, [], ◌+◌, length, ◌++◌, codes, ⊤}
use Rattle.std.specs.List.{list_all}
use Rattle.http_header.specs.HeaderMap.{get}
use Rattle.url.specs.Parts.{Parts}
use Rattle.cds_base.specs.declared.limits.TheConstants.{INPUT_LIMIT}
use Rattle.cds_base.specs.Escape.{escaped}
use Rattle.cds_base.specs.Characters.{AreAllowed}
use Rattle.cds_http.specs.declared.message.Side.TheVariants.{Request, Reply}
use Rattle.cds_http.specs.declared.message.Start.TheVariants.{Request as of_request}
use Rattle.cds_http.specs.declared.message.Message.{Message}
use Rattle.cds_http.specs.Known.{Whole}
use Rattle.cds_http.specs.Decided.{Decides}
use Rattle.cds_soap.specs.declared.action.BrowseRequest.{BrowseRequest}
use Rattle.cds_soap.specs.declared.action.SearchRequest.{SearchRequest}
use Rattle.cds_soap.specs.declared.action.Action.{Action}
use Rattle.cds_soap.specs.declared.action.Action.TheVariants as action
use Rattle.cds_soap.specs.declared.action.Asked.{Asked}
use Rattle.cds_soap.specs.declared.answer.Answer.{Answer}
use Rattle.cds_soap.specs.declared.answer.Answer.TheVariants as answer
use Rattle.cds_soap.specs.declared.error.SoapError.{SoapError}
use Rattle.cds_soap.specs.declared.error.SoapError.TheVariants.{Mem}
use Rattle.cds_soap.specs.Names.{name_of_action, IsVersion}
use Rattle.cds_soap.specs.Control.{AnswersAsk}
use Rattle.cds_soap.specs.Answered.{Answered, AnswersReply}
use Rattle.cds_soap.specs.Written.{host_in, request_body, written_action, answer_body, written_answer, Fits, CanBeToken}

-- A message has one answer, and so have the bytes of a reply, unless memory ran out.
abbrev pub OneAsk : Type 0
OneAsk =
    (m : Message) (one other : Result Asked SoapError) → AnswersAsk m one → AnswersAsk m other
    → one ≢ Err Mem → other ≢ Err Mem → one ≡ other

abbrev pub OneReply : Type 0
OneReply =
    (bytes : List ℕ) (action : Action) (one other : Result Answer SoapError) → AnswersReply bytes action one → AnswersReply bytes action other
    → one ≢ Err Mem → other ≢ Err Mem → one ≡ other

-- ---- what is written is read back

-- HOST in its form: 1 to 255 bytes of ASCII letters, digits, `.`, `-`, `:`, `[` and `]` (this project's profile).
abbrev pub is_host_byte : ℕ → Bool
is_host_byte b =
    (nat_le 97 b && nat_le b 122) || (nat_le 65 b && nat_le b 90) || (nat_le 48 b && nat_le b 57)
    || b == 46 || b == 45 || b == 58 || b == 91 || b == 93

abbrev pub is_host : List ℕ → Bool
is_host text = list_all is_host_byte text && nat_le 1 (length text) && nat_le (length text) 255

-- Texts have allowed characters, and numbers are of 32 bits.
pub record IsAllowedBrowse (request : BrowseRequest) : Type 0 where
  pub object : AreAllowed request.object
  pub flag : AreAllowed request.flag
  pub filter : AreAllowed request.filter
  pub start : request.start < 2 ^ 32
  pub count : request.count < 2 ^ 32
  pub sort : AreAllowed request.sort

pub record IsAllowedSearch (request : SearchRequest) : Type 0 where
  pub container : AreAllowed request.container
  pub criteria : AreAllowed request.criteria
  pub filter : AreAllowed request.filter
  pub start : request.start < 2 ^ 32
  pub count : request.count < 2 ^ 32
  pub sort : AreAllowed request.sort

abbrev pub IsAllowedAction : Action → Type 0
IsAllowedAction (action.Browse request) = IsAllowedBrowse request
IsAllowedAction (action.Search request) = IsAllowedSearch request
IsAllowedAction other = ⊤

abbrev pub IsAllowedAnswer : Answer → Type 0
IsAllowedAnswer (answer.Page result returned total update) =
    AreAllowed result × (returned < 2 ^ 32) × (total < 2 ^ 32) × (update < 2 ^ 32)
IsAllowedAnswer (answer.Number number) = number < 2 ^ 32
IsAllowedAnswer (answer.Text text) = AreAllowed text
IsAllowedAnswer (answer.Fault code) = ⊤

-- The first value of a field, by its name in lower case.
abbrev pub value_of : List ℕ → Message → Option (List ℕ)
value_of name m = option_map (λ value. value.bytes) (get m.fields name)

-- Bytes, at the end of the connection or before it, are a control request to an address and then more. It asks for the
-- action in version 4.
pub record AreRequest (ended : Bool) (bytes : List ℕ) (asked : Action) (url : Parts) (more : List ℕ) : Type 0 where
  pub message : Message
  pub whole : Decides ended Request bytes (Whole message more)
  pub start : message.start ≡ of_request (codes "POST") (codes "/control")
  pub host : value_of (codes "host") message ≡ Some (host_in url)
  pub asks : AnswersAsk message (Ok record { action = asked; version = 4 })

-- What is written of an action is such a request, whatever comes after it. Texts and numbers must be allowed, and the
-- body no longer than a document may be. The address must have the path `/control`, no query, and a host and port in
-- the form of HOST.
abbrev pub RequestsAreRead : Type 0
RequestsAreRead =
    (asked : Action) (url : Parts) (more : List ℕ) (ended : Bool) → IsAllowedAction asked → url.path ≡ codes "/control" → url.query ≡ None
    → IsTrue (is_host (host_in url)) → length (request_body 4 asked) ≤ INPUT_LIMIT
    → AreRequest ended (written_action asked url ++ more) asked url more

-- Bytes, at the end of the connection or before it, are a reply and then more. The reply answers the action so, with
-- this token or none. All the bytes together answer it so, too.
pub record AreReply (ended : Bool) (bytes : List ℕ) (asked : Action) (given : Answer) (token : Option (List ℕ)) (more : List ℕ) : Type 0 where
  pub message : Message
  pub whole : Decides ended Reply bytes (Whole message more)
  pub token_is : value_of (codes "cds-reset-token") message ≡ token
  pub answered : Answered message asked given
  pub answers : AnswersReply bytes asked (Ok given)

-- What is written of an answer is such a reply, in each version of the service, whatever comes after it. Texts and
-- numbers must be allowed, and the body no longer than a document may be.
abbrev pub AnswersAreRead : Type 0
AnswersAreRead =
    (asked : Action) (version : ℕ) (given : Answer) (token : Option (List ℕ)) (more : List ℕ) (ended : Bool) → IsVersion version
    → Fits (name_of_action asked) given → IsAllowedAnswer given → CanBeToken token
    → length (answer_body (name_of_action asked) version given) ≤ INPUT_LIMIT
    → AreReply ended (written_answer asked version given token ++ more) asked given token more

-- ---- how long bodies are

-- The texts that stand in a body, one after the other.
abbrev pub action_texts : Action → List ℕ
action_texts (action.Browse request) = request.object ++ request.flag ++ request.filter ++ request.sort
action_texts (action.Search request) = request.container ++ request.criteria ++ request.filter ++ request.sort
action_texts other = []

abbrev pub answer_texts : Answer → List ℕ
answer_texts (answer.Page result returned total update) = result
answer_texts (answer.Text text) = text
answer_texts other = []

-- A body has at most 1,024 bytes around its texts, which are escaped.
pub record BodiesAreShort : Type 0 where
  pub request : (version : ℕ) (asked : Action) → IsVersion version → IsAllowedAction asked
      → length (request_body version asked) ≤ length (escaped (action_texts asked)) + 1024
  pub answer : (asked : Action) (version : ℕ) (given : Answer) → IsVersion version → Fits (name_of_action asked) given → IsAllowedAnswer given
      → length (answer_body (name_of_action asked) version given) ≤ length (escaped (answer_texts given)) + 1024
