-- What is written of an action in an envelope is a document that asks for the action.
use Rattle.std.proofs.Common.{◌≡◌, ℕ, ◌≤◌, ◌<◌, ◌^◌, Some, option_map, List, [], ◌++◌, codes, length, refl, sym, ap, subst, ◌∙◌, arith, append_assoc, append-nil}
use Rattle.std.specs.Fmt.{decimal}
use Rattle.cds_base.specs.declared.limits.TheConstants.{INPUT_LIMIT}
use Rattle.cds_base.specs.Characters.{AreAllowed}
use Rattle.cds_object.specs.Writing.{text_element}
use Rattle.cds_markup.specs.Document.{Meaning, Meanings, End, ChildThen, most_open, Doc}
use Rattle.cds_markup.specs.Drafts.{Draft, Drafts, Done, DraftThen, drafted, drafted_in, drafts_say, CanBeDrafts, CanBeDrafted, draft_depth, version_declared}
use Rattle.cds_markup.proofs.Public.{small-name, drafts-are-read}
use Rattle.cds_soap.specs.declared.action.ActionName.{ActionName}
use Rattle.cds_soap.specs.declared.action.ActionName.TheVariants as name
use Rattle.cds_soap.specs.declared.action.BrowseRequest.{BrowseRequest}
use Rattle.cds_soap.specs.declared.action.SearchRequest.{SearchRequest}
use Rattle.cds_soap.specs.declared.action.Action.{Action}
use Rattle.cds_soap.specs.declared.action.Action.TheVariants as action
use Rattle.cds_soap.specs.Names.{name_of_action, named_as, IsVersion, service_type}
use Rattle.cds_soap.specs.Envelope.{envelope_space, ◌>>=◌}
use Rattle.cds_soap.specs.Given.{text_given, browse_given, search_given, action_given}
use Rattle.cds_soap.specs.Control.{Calls}
use Rattle.cds_soap.specs.Written.{in_service, slice_text, browse_text, search_text, arguments_text, request_body}
use Rattle.cds_soap.specs.Laws.{IsAllowedAction}
use Rattle.cds_soap.proofs.Naming.{true-both, same-bytes}
use Rattle.cds_soap.proofs.Envelopes.{text_draft, text-written, number-written, text_said, alone, number-one, AName, text-can, number-can, service_draft, service-written, envelope_draft, envelope-written, envelope_said, envelope-says, envelope-holds, Inner, service_said, service-says, service-can, envelope-can}

-- ---- drafts of requests

abbrev arguments_inside : (one two first second filter : List ℕ) (start count : ℕ) (sort : List ℕ) → Drafts
arguments_inside one two first second filter start count sort =
    DraftThen (text_draft one first)
    (DraftThen (text_draft two second)
    (DraftThen (text_draft (codes "Filter") filter)
    (DraftThen (text_draft (codes "StartingIndex") (decimal start))
    (DraftThen (text_draft (codes "RequestedCount") (decimal count)) (DraftThen (text_draft (codes "SortCriteria") sort) Done)))))

abbrev browse_inside : BrowseRequest → Drafts
browse_inside r = arguments_inside (codes "ObjectID") (codes "BrowseFlag") r.object r.flag r.filter r.start r.count r.sort

abbrev search_inside : SearchRequest → Drafts
search_inside r = arguments_inside (codes "ContainerID") (codes "SearchCriteria") r.container r.criteria r.filter r.start r.count r.sort

abbrev inside_of : Action → Drafts
inside_of (action.Browse request) = browse_inside request
inside_of (action.Search request) = search_inside request
inside_of action.GetSystemUpdateId = Done
inside_of action.GetServiceResetToken = Done
inside_of action.GetSearchCapabilities = Done
inside_of action.GetSortCapabilities = Done

abbrev request_draft : ℕ → Action → Draft
request_draft version asked = service_draft version (named_as (name_of_action asked)) (inside_of asked)

-- ---- how they are written

six-shape : (a b c d e f : List ℕ) → (a ++ b) ++ (((c ++ d) ++ e) ++ f) ≡ a ++ (b ++ (c ++ (d ++ (e ++ (f ++ [])))))
six-shape a b c d e f = simp (append_assoc, append-nil)

abbrev six : List ℕ → List ℕ → List ℕ → List ℕ → List ℕ → List ℕ → List ℕ
six a b c d e f = (a ++ b) ++ (((c ++ d) ++ e) ++ f)

arguments-written : (one two first second filter : List ℕ) (start count : ℕ) (sort : List ℕ) → start < 2 ^ 32 → count < 2 ^ 32
    → (text_element one first ++ text_element two second) ++ slice_text filter start count sort ≡ drafted_in (arguments_inside one two first second filter start count sort)
unfolding slice_text
arguments-written one two first second filter start count sort s c =
    (λ i. six (text-written one first i) (text-written two second i) (text-written (codes "Filter") filter i) (number-written (codes "StartingIndex") start s i)
    (number-written (codes "RequestedCount") count c i) (text-written (codes "SortCriteria") sort i))
    ∙ six-shape (drafted (text_draft one first)) (drafted (text_draft two second)) (drafted (text_draft (codes "Filter") filter))
    (drafted (text_draft (codes "StartingIndex") (decimal start))) (drafted (text_draft (codes "RequestedCount") (decimal count))) (drafted (text_draft (codes "SortCriteria") sort))

inside-written : (asked : Action) → IsAllowedAction asked → arguments_text asked ≡ drafted_in (inside_of asked)
unfolding browse_text search_text
inside-written (action.Browse r) is = arguments-written (codes "ObjectID") (codes "BrowseFlag") r.object r.flag r.filter r.start r.count r.sort is.start is.count
inside-written (action.Search r) is = arguments-written (codes "ContainerID") (codes "SearchCriteria") r.container r.criteria r.filter r.start r.count r.sort is.start is.count
inside-written action.GetSystemUpdateId is = refl
inside-written action.GetServiceResetToken is = refl
inside-written action.GetSearchCapabilities is = refl
inside-written action.GetSortCapabilities is = refl

-- ---- what they say

abbrev arguments_meant : (one two first second filter : List ℕ) (start count : ℕ) (sort : List ℕ) → Meanings
arguments_meant one two first second filter start count sort =
    ChildThen (text_said [] one first)
    (ChildThen (text_said [] two second)
    (ChildThen (text_said [] (codes "Filter") filter)
    (ChildThen (text_said [] (codes "StartingIndex") (decimal start))
    (ChildThen (text_said [] (codes "RequestedCount") (decimal count)) (ChildThen (text_said [] (codes "SortCriteria") sort) End)))))

abbrev meant_of : Action → Meanings
meant_of (action.Browse r) = arguments_meant (codes "ObjectID") (codes "BrowseFlag") r.object r.flag r.filter r.start r.count r.sort
meant_of (action.Search r) = arguments_meant (codes "ContainerID") (codes "SearchCriteria") r.container r.criteria r.filter r.start r.count r.sort
meant_of action.GetSystemUpdateId = End
meant_of action.GetServiceResetToken = End
meant_of action.GetSearchCapabilities = End
meant_of action.GetSortCapabilities = End

abbrev pub call_said : ℕ → Action → Meaning
call_said version asked = service_said version (named_as (name_of_action asked)) (meant_of asked)

arguments-say : (version : ℕ) (local one two first second filter : List ℕ) (start count : ℕ) (sort : List ℕ)
    → drafts_say (Inner version local) (arguments_inside one two first second filter start count sort) ≡ Some (arguments_meant one two first second filter start count sort)
unfolding envelope_space
arguments-say version local one two first second filter start count sort = refl

inside-says : (version : ℕ) (local : List ℕ) (asked : Action) → drafts_say (Inner version local) (inside_of asked) ≡ Some (meant_of asked)
inside-says version local (action.Browse r) = arguments-say version local (codes "ObjectID") (codes "BrowseFlag") r.object r.flag r.filter r.start r.count r.sort
inside-says version local (action.Search r) = arguments-say version local (codes "ContainerID") (codes "SearchCriteria") r.container r.criteria r.filter r.start r.count r.sort
inside-says version local action.GetSystemUpdateId = refl
inside-says version local action.GetServiceResetToken = refl
inside-says version local action.GetSearchCapabilities = refl
inside-says version local action.GetSortCapabilities = refl

-- ---- that they can be written

action-name : (n : ActionName) → AName (named_as n)
action-name name.Browse = small-name 66 (codes "rowse") refl refl
action-name name.Search = small-name 83 (codes "earch") refl refl
action-name name.GetSystemUpdateId = small-name 71 (codes "etSystemUpdateID") refl refl
action-name name.GetServiceResetToken = small-name 71 (codes "etServiceResetToken") refl refl
action-name name.GetSearchCapabilities = small-name 71 (codes "etSearchCapabilities") refl refl
action-name name.GetSortCapabilities = small-name 71 (codes "etSortCapabilities") refl refl

arguments-can : (one two first second filter : List ℕ) (start count : ℕ) (sort : List ℕ) → AName one → AName two → AreAllowed first → AreAllowed second → AreAllowed filter
    → start < 2 ^ 32 → count < 2 ^ 32 → AreAllowed sort → CanBeDrafts (arguments_inside one two first second filter start count sort)
arguments-can one two first second filter start count sort n m a b f s c o = (
  text-can one first n a,
  (
    text-can two second m b,
    (
      text-can (codes "Filter") filter (small-name 70 (codes "ilter") refl refl) f,
      (
        number-can (codes "StartingIndex") start (small-name 83 (codes "tartingIndex") refl refl) s,
        (
          number-can (codes "RequestedCount") count (small-name 82 (codes "equestedCount") refl refl) c,
          (text-can (codes "SortCriteria") sort (small-name 83 (codes "ortCriteria") refl refl) o, tt),
        ),
      ),
    ),
  ),
)

inside-can : (asked : Action) → IsAllowedAction asked → CanBeDrafts (inside_of asked)
inside-can (action.Browse r) is =
    arguments-can (codes "ObjectID") (codes "BrowseFlag") r.object r.flag r.filter r.start r.count r.sort (small-name 79 (codes "bjectID") refl refl)
    (small-name 66 (codes "rowseFlag") refl refl) is.object is.flag is.filter is.start is.count is.sort
inside-can (action.Search r) is =
    arguments-can (codes "ContainerID") (codes "SearchCriteria") r.container r.criteria r.filter r.start r.count r.sort (small-name 67 (codes "ontainerID") refl refl)
    (small-name 83 (codes "earchCriteria") refl refl) is.container is.criteria is.filter is.start is.count is.sort
inside-can action.GetSystemUpdateId is = tt
inside-can action.GetServiceResetToken is = tt
inside-can action.GetSearchCapabilities is = tt
inside-can action.GetSortCapabilities is = tt

inside-deep : (version : ℕ) (asked : Action) → draft_depth (envelope_draft (request_draft version asked)) ≤ most_open
inside-deep version (action.Browse r) = omega arith
inside-deep version (action.Search r) = omega arith
inside-deep version action.GetSystemUpdateId = omega arith
inside-deep version action.GetServiceResetToken = omega arith
inside-deep version action.GetSearchCapabilities = omega arith
inside-deep version action.GetSortCapabilities = omega arith

-- ---- so the body is a document

pub request-document : (version : ℕ) (asked : Action) → IsVersion version → IsAllowedAction asked → length (request_body version asked) ≤ INPUT_LIMIT
    → Doc (request_body version asked) (envelope_said (call_said version asked))
request-document version asked is allowed short =
    let local = named_as (name_of_action asked) in
    let draft = envelope_draft (request_draft version asked) in
    let said = envelope_said (call_said version asked) in
    let same : request_body version asked ≡ version_declared ++ drafted draft =
    envelope-written (in_service version local (arguments_text asked)) (request_draft version asked)
    (service-written version local (arguments_text asked) (inside_of asked) is (inside-written asked allowed)) in
    let can : CanBeDrafted version_declared draft = record {
      can_be = envelope-can (request_draft version asked) (service-can version local (inside_of asked) is (action-name (name_of_action asked)) (inside-can asked allowed));
      within = inside-deep version asked;
      short = subst (λ (b : List ℕ). length b ≤ INPUT_LIMIT) same short;
    } in
    subst (λ (b : List ℕ). Doc b said) (sym same)
    (drafts-are-read.1 draft said can
    (envelope-says (request_draft version asked) (call_said version asked)
    (service-says version local (inside_of asked) (meant_of asked) is (inside-says version local asked))))

-- ---- that asks for the action

browse-read : (version : ℕ) (local : List ℕ) (r : BrowseRequest) → r.start < 2 ^ 32 → r.count < 2 ^ 32
    → browse_given (service_said version local (arguments_meant (codes "ObjectID") (codes "BrowseFlag") r.object r.flag r.filter r.start r.count r.sort)) ≡ Some r
unfolding browse_given
browse-read version local r s c =
    let element = service_said version local (arguments_meant (codes "ObjectID") (codes "BrowseFlag") r.object r.flag r.filter r.start r.count r.sort) in
    let one : text_given (codes "ObjectID") element ≡ Some r.object = ap Some (alone r.object) in
    let two : text_given (codes "BrowseFlag") element ≡ Some r.flag = ap Some (alone r.flag) in
    let three : text_given (codes "Filter") element ≡ Some r.filter = ap Some (alone r.filter) in
    let four = number-one (codes "StartingIndex") r.start element s (ap Some (alone (decimal r.start))) in
    let five = number-one (codes "RequestedCount") r.count element c (ap Some (alone (decimal r.count))) in
    let six : text_given (codes "SortCriteria") element ≡ Some r.sort = ap Some (alone r.sort) in
    λ i. one i >>= (λ a. two i >>= (λ b. three i >>= (λ c. four i >>= (λ d. five i >>= (λ e. six i >>= (λ f.
    Some (record { object = a; flag = b; filter = c; start = d; count = e; sort = f })))))))

search-read : (version : ℕ) (local : List ℕ) (r : SearchRequest) → r.start < 2 ^ 32 → r.count < 2 ^ 32
    → search_given (service_said version local (arguments_meant (codes "ContainerID") (codes "SearchCriteria") r.container r.criteria r.filter r.start r.count r.sort)) ≡ Some r
unfolding search_given
search-read version local r s c =
    let element = service_said version local (arguments_meant (codes "ContainerID") (codes "SearchCriteria") r.container r.criteria r.filter r.start r.count r.sort) in
    let one : text_given (codes "ContainerID") element ≡ Some r.container = ap Some (alone r.container) in
    let two : text_given (codes "SearchCriteria") element ≡ Some r.criteria = ap Some (alone r.criteria) in
    let three : text_given (codes "Filter") element ≡ Some r.filter = ap Some (alone r.filter) in
    let four = number-one (codes "StartingIndex") r.start element s (ap Some (alone (decimal r.start))) in
    let five = number-one (codes "RequestedCount") r.count element c (ap Some (alone (decimal r.count))) in
    let six : text_given (codes "SortCriteria") element ≡ Some r.sort = ap Some (alone r.sort) in
    λ i. one i >>= (λ a. two i >>= (λ b. three i >>= (λ c. four i >>= (λ d. five i >>= (λ e. six i >>= (λ f.
    Some (record { container = a; criteria = b; filter = c; start = d; count = e; sort = f })))))))

pub arguments-read : (version : ℕ) (asked : Action) → IsAllowedAction asked → action_given (name_of_action asked) (call_said version asked) ≡ Some asked
unfolding action_given
arguments-read version (action.Browse r) is = ap (option_map action.Browse) (browse-read version (codes "Browse") r is.start is.count)
arguments-read version (action.Search r) is = ap (option_map action.Search) (search-read version (codes "Search") r is.start is.count)
arguments-read version action.GetSystemUpdateId is = refl
arguments-read version action.GetServiceResetToken is = refl
arguments-read version action.GetSearchCapabilities is = refl
arguments-read version action.GetSortCapabilities is = refl

pub request-calls : (version : ℕ) (asked : Action) → IsVersion version → Calls (envelope_said (call_said version asked)) (name_of_action asked) version (call_said version asked)
request-calls version asked is = record {
  spoken = is;
  inside = envelope-holds (call_said version asked);
  named = true-both _ _ (same-bytes (service_type version) (service_type version) refl)
      (same-bytes (named_as (name_of_action asked)) (named_as (name_of_action asked)) refl);
}
