-- Laws of replies to control requests.
use Rattle.std.specs.Prelude.{◌≡◌, ◌⊎◌, ◌↔◌, ℕ, Bool, List, filter, take, drop, None, Ok, Err, IsOk, ⊤}
use Rattle.cds_http.specs.declared.fields.Field.{Field}
use Rattle.cds_http.specs.declared.message.Message.{Message}
use Rattle.cds_http.specs.Written.{written_reply}
use Rattle.cds_markup.specs.declared.error.MarkupError.{MarkupError}
use Rattle.cds_markup.specs.Refusal.{IsRefused}
use Rattle.cds_soap.specs.declared.action.Action.{Action}
use Rattle.cds_soap.specs.declared.action.Action.TheVariants as action
use Rattle.cds_soap.specs.declared.action.Asked.{Asked}
use Rattle.cds_soap.specs.Control.{Control, AnswersAsk, NamesNone, GivesNone}
use Rattle.cds_soap.specs.Written.{written_answer}
use Rattle.cds_object.specs.Object.{ObjectRow}
use Rattle.cds_object.specs.Tree.{IdsAscend}
use Rattle.cds_criteria.specs.Sorting.{ordered, sortable}
use Rattle.cds_criteria.specs.declared.property.Property.{Property}
use Rattle.cds_criteria.specs.declared.sort.SortKey.{SortKey}
use Rattle.cds_criteria.specs.declared.sort.SortProperty.{SortProperty}
use Rattle.cds_browse.specs.Browsing.{browse_answer}
use Rattle.cds_browse.specs.Paging.{ids_of}
use Rattle.cds_browse.specs.Searching.{search_answer}
use Rattle.cds_browse.specs.declared.error.BrowseError.{BrowseError}
use Rattle.cds_control.specs.Published.{Published}
use Rattle.cds_control.specs.Capabilities.{Has, searchable}
use Rattle.cds_control.specs.Answering.{rows_with, code_of, answer_to}
use Rattle.cds_control.specs.Replies.{IsControlReply, empty_reply, fault_reply}

-- A text is a reply of a status.
pub record HasStatus (status : ℕ) (text : List ℕ) : Type 0 where
  pub fields : List Field
  pub body : List ℕ
  pub written : text ≡ written_reply status fields body

-- A control request has one reply over what is published.
abbrev pub one_reply : Type 0
one_reply = (published : Published) (host : List ℕ) (m : Message) (one other : List ℕ) →
    IsControlReply published host m one → IsControlReply published host m other → one ≡ other

-- A control request that asks for an action gets the answer to it, in the version that was asked, and nothing else.
abbrev pub what_is_asked_is_answered : Type 0
what_is_asked_is_answered = (published : Published) (host : List ℕ) (m : Message) (asked : Asked) (text : List ℕ) → AnswersAsk m (Ok asked) →
    IsControlReply published host m text ↔ (text ≡ written_answer asked.action asked.version (answer_to published host asked.action) None)

-- The checks of an action pass. Browse and Search have checks, and the four other actions have none.
abbrev pub Passes : Published → Action → Type 0
Passes published (action.Browse asked) = IsOk (browse_answer published.number published.rows asked)
Passes published (action.Search asked) = IsOk (search_answer published.number published.rows asked)
Passes published action.GetSystemUpdateId = ⊤
Passes published action.GetServiceResetToken = ⊤
Passes published action.GetSearchCapabilities = ⊤
Passes published action.GetSortCapabilities = ⊤

-- A control request whose checks all pass is answered with status 200.
abbrev pub passed_checks_get_200 : Type 0
passed_checks_get_200 = (published : Published) (host : List ℕ) (m : Message) (asked : Action) (version : ℕ) (text : List ℕ) →
    Control m asked version → Passes published asked → IsControlReply published host m text → HasStatus 200 text

-- ---- why a control request gets its reply

-- Browse or Search refuses what it is asked, in this way.
abbrev pub Refuses : Published → Action → BrowseError → Type 0
Refuses published (action.Browse asked) refusal = browse_answer published.number published.rows asked ≡ Err refusal
Refuses published (action.Search asked) refusal = search_answer published.number published.rows asked ≡ Err refusal
Refuses published other refusal = ⊥

-- a code of Browse or Search: the message asks for what is refused in this way
abbrev pub IsRefusedBy : Published → Message → BrowseError → Type 0
IsRefusedBy published m refusal = (asked : Action) × (version : ℕ) × Control m asked version × Refuses published asked refusal

-- 200: the message asks for an action whose checks pass.
abbrev pub IsAnswered : Published → Message → Type 0
IsAnswered published m = (asked : Action) × (version : ℕ) × Control m asked version × Passes published asked

-- 400: the body is no document.
abbrev pub HasNoDocument : Message → Type 0
HasNoDocument m = (refusal : MarkupError) × IsRefused m.body refusal

-- what comes of a control request whose body is a document
abbrev pub HasCause : Published → Message → List ℕ → Type 0
HasCause published m text =
    ((text ≡ fault_reply 401) × NamesNone m) ⊎ ((text ≡ fault_reply 402) × GivesNone m)
    ⊎ ((refusal : BrowseError) × (text ≡ fault_reply (code_of refusal)) × IsRefusedBy published m refusal)
    ⊎ (HasStatus 200 text × IsAnswered published m)

-- Each reply has its status for its cause, and no control request is answered otherwise.
abbrev pub replies_have_causes : Type 0
replies_have_causes = (published : Published) (host : List ℕ) (m : Message) (text : List ℕ) → IsControlReply published host m text →
    ((text ≡ empty_reply 400) × HasNoDocument m) ⊎ HasCause published m text

-- ---- the rows of a page

-- The rows are in ascending order of ids. Those that match are put in the order of keys, and a slice of them is taken. The rows
-- written for the ids of the slice are the slice.
abbrev pub pages_have_their_rows : Type 0
pages_have_their_rows = (rows : List ObjectRow) (matches : ObjectRow → Bool) (keys : List SortKey) (start count : ℕ) → IdsAscend rows →
    rows_with (ids_of (take count (drop start (ordered keys (filter matches rows))))) rows
    ≡ take count (drop start (ordered keys (filter matches rows)))

-- ---- what is told of properties

-- Every property that criteria may name is listed, and every property that rows can be sorted by.
abbrev pub capabilities_are_whole : Type 0
capabilities_are_whole = ((property : Property) → Has property searchable) × ((property : SortProperty) → Has property sortable)
