-- What stands in the element of an action or of an answer: child elements by their local names, in any order and
-- namespace (UPnP ContentDirectory:4 on the arguments of actions). This project's profile: a request has no other
-- elements, and an answer may have some.
use Rattle.std.specs.Prelude.{◌==◌, ◌^◌, ◌-◌, ℕ, Bool, ◌||◌, if◌then◌else◌, Option, Some, None, List, [], ◌∷◌, codes, length, take, drop}
use Rattle.std.specs.Option.{option_and_then, option_map}
use Rattle.std.specs.List.{list_all, list_any, prefix_len, suffix_len}
use Rattle.cds_base.specs.Number.{number_below}
use Rattle.cds_markup.specs.Document.{Meaning}
use Rattle.cds_markup.specs.Children.{nodes_in, elements_in, texts_in, called, is_called, only_of}
use Rattle.cds_soap.specs.Envelope.{◌>>=◌}
use Rattle.cds_soap.specs.declared.action.ActionName.{ActionName}
use Rattle.cds_soap.specs.declared.action.ActionName.TheVariants as name
use Rattle.cds_soap.specs.declared.action.BrowseRequest.{BrowseRequest}
use Rattle.cds_soap.specs.declared.action.SearchRequest.{SearchRequest}
use Rattle.cds_soap.specs.declared.action.Action.{Action}
use Rattle.cds_soap.specs.declared.action.Action.TheVariants as action
use Rattle.cds_soap.specs.declared.answer.Answer.{Answer}
use Rattle.cds_soap.specs.declared.answer.Answer.TheVariants as answer

-- A text without the white space of XML 1.0 before and after it.
abbrev pub is_space : ℕ → Bool
is_space b = b == 32 || b == 9 || b == 10 || b == 13

abbrev pub without_front : List ℕ → List ℕ
without_front text = drop (prefix_len is_space text) text

abbrev pub without_back : List ℕ → List ℕ
without_back text = take (length text - suffix_len is_space text) text

abbrev pub trimmed : List ℕ → List ℕ
trimmed text = without_back (without_front text)

-- The text of the child element that comes once, and the number of 32 bits in such a text.
abbrev pub own_text : Meaning → List ℕ
own_text element = texts_in (nodes_in element)

abbrev pub text_given : List ℕ → Meaning → Option (List ℕ)
text_given local element = option_map own_text (only_of (called local (nodes_in element)))

abbrev pub number_in : ℕ → List ℕ → Option ℕ
number_in limit text = number_below limit (trimmed text)

abbrev pub number_given : List ℕ → Meaning → Option ℕ
number_given local element = option_and_then (number_in (2 ^ 32)) (text_given local element)

-- ---- requests

-- The names of an action's arguments, in the order in which they are written.
abbrev pub arguments_of : ActionName → List (List ℕ)
arguments_of name.Browse =
    codes "ObjectID" ∷ codes "BrowseFlag" ∷ codes "Filter" ∷ codes "StartingIndex" ∷ codes "RequestedCount" ∷ codes "SortCriteria" ∷ []
arguments_of name.Search =
    codes "ContainerID" ∷ codes "SearchCriteria" ∷ codes "Filter" ∷ codes "StartingIndex" ∷ codes "RequestedCount" ∷ codes "SortCriteria" ∷ []
arguments_of other = []

-- All child elements have one of these names.
abbrev pub is_argument : ActionName → Meaning → Bool
is_argument action_name child = list_any (λ local. is_called local child) (arguments_of action_name)

abbrev pub has_only : ActionName → Meaning → Bool
has_only action_name element = list_all (λ child. is_argument action_name child) (elements_in (nodes_in element))

unfoldable pub browse_given : Meaning → Option BrowseRequest
browse_given element = do
  object ← text_given (codes "ObjectID") element
  flag ← text_given (codes "BrowseFlag") element
  filter ← text_given (codes "Filter") element
  start ← number_given (codes "StartingIndex") element
  count ← number_given (codes "RequestedCount") element
  sort ← text_given (codes "SortCriteria") element
  Some (record { object = object; flag = flag; filter = filter; start = start; count = count; sort = sort })

unfoldable pub search_given : Meaning → Option SearchRequest
search_given element = do
  container ← text_given (codes "ContainerID") element
  criteria ← text_given (codes "SearchCriteria") element
  filter ← text_given (codes "Filter") element
  start ← number_given (codes "StartingIndex") element
  count ← number_given (codes "RequestedCount") element
  sort ← text_given (codes "SortCriteria") element
  Some (record { container = container; criteria = criteria; filter = filter; start = start; count = count; sort = sort })

abbrev pub arguments_given : ActionName → Meaning → Option Action
arguments_given name.Browse element = option_map action.Browse (browse_given element)
arguments_given name.Search element = option_map action.Search (search_given element)
arguments_given name.GetSystemUpdateId element = Some action.GetSystemUpdateId
arguments_given name.GetServiceResetToken element = Some action.GetServiceResetToken
arguments_given name.GetSearchCapabilities element = Some action.GetSearchCapabilities
arguments_given name.GetSortCapabilities element = Some action.GetSortCapabilities

-- The action with its arguments: each of them comes once, no other element stands beside them, and numbers are well
-- formed.
unfoldable pub action_given : ActionName → Meaning → Option Action
action_given action_name element =
    if has_only action_name element then arguments_given action_name element else None

-- ---- answers

unfoldable pub page_given : Meaning → Option Answer
page_given element = do
  result ← text_given (codes "Result") element
  returned ← number_given (codes "NumberReturned") element
  total ← number_given (codes "TotalMatches") element
  update ← number_given (codes "UpdateID") element
  Some (answer.Page result returned total update)

-- What answers an action: each of its results comes once, and numbers are well formed. Other elements are passed over.
abbrev pub results_given : ActionName → Meaning → Option Answer
results_given name.Browse element = page_given element
results_given name.Search element = page_given element
results_given name.GetSystemUpdateId element = option_map answer.Number (number_given (codes "Id") element)
results_given name.GetServiceResetToken element = option_map answer.Text (text_given (codes "ResetToken") element)
results_given name.GetSearchCapabilities element = option_map answer.Text (text_given (codes "SearchCaps") element)
results_given name.GetSortCapabilities element = option_map answer.Text (text_given (codes "SortCaps") element)
