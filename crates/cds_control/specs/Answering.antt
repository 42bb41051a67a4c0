-- What each action is answered with (UPnP ContentDirectory:4 on the actions and their errors; UPnP Device Architecture 2.0 on the
-- codes of errors).
use Rattle.std.specs.Prelude.{ℕ, List, ◌++◌, length, codes, Result, Ok, Err}
use Rattle.std.specs.List.{filter_map}
use Rattle.cds_object.specs.Object.{ObjectRow}
use Rattle.cds_object.specs.Tree.{row_of}
use Rattle.cds_didl.specs.Filter.{filter_of}
use Rattle.cds_didl.specs.Fragment.{didl_text}
use Rattle.cds_soap.specs.declared.action.Action.{Action}
use Rattle.cds_soap.specs.declared.action.Action.TheVariants as action
use Rattle.cds_soap.specs.declared.action.BrowseRequest.{BrowseRequest}
use Rattle.cds_soap.specs.declared.action.SearchRequest.{SearchRequest}
use Rattle.cds_soap.specs.declared.answer.Answer.{Answer}
use Rattle.cds_soap.specs.declared.answer.Answer.TheVariants as answer
use Rattle.cds_browse.specs.Browsing.{browse_answer}
use Rattle.cds_browse.specs.Searching.{search_answer}
use Rattle.cds_browse.specs.declared.error.BrowseError.{BrowseError}
use Rattle.cds_browse.specs.declared.error.BrowseError.TheVariants.{InvalidArgs, NoObject, NoContainer, BadCriteria, BadSort, Mem}
use Rattle.cds_browse.specs.declared.page.Page.{Page}
use Rattle.cds_control.specs.Published.{Published}
use Rattle.cds_control.specs.Capabilities.{search_capabilities, sort_capabilities}

-- the base of the URLs of tracks at a host
abbrev pub base_of : List ℕ → List ℕ
base_of host = codes "http://" ++ host

-- the rows of a page, in its order
abbrev pub rows_with : List ℕ → List ObjectRow → List ObjectRow
rows_with ids rows = filter_map (λ id. row_of id rows) ids

-- the code of a refusal of Browse or Search; `Mem` is never an answer that is owed
abbrev pub code_of : BrowseError → ℕ
code_of InvalidArgs = 402
code_of NoObject = 701
code_of NoContainer = 710
code_of (BadCriteria at) = 708
code_of (BadSort at) = 709
code_of Mem = 603

-- Browse and Search: a DIDL-Lite document of the page's rows with what the filter lets through, how many rows it has, how many
-- match, and the update number
abbrev pub page_answer : List ℕ → List ℕ → List ObjectRow → Result Page BrowseError → Answer
page_answer filter host rows (Ok page) =
    answer.Page (didl_text (filter_of filter) (base_of host) (rows_with page.ids rows)) (length page.ids) page.total page.update
page_answer filter host rows (Err refusal) = answer.Fault (code_of refusal)

abbrev pub browsed : Published → List ℕ → BrowseRequest → Answer
browsed published host asked = page_answer asked.filter host published.rows (browse_answer published.number published.rows asked)

abbrev pub searched : Published → List ℕ → SearchRequest → Answer
searched published host asked = page_answer asked.filter host published.rows (search_answer published.number published.rows asked)

-- the answer to an action over what is published, if the tracks are at this host
abbrev pub answer_to : Published → List ℕ → Action → Answer
answer_to published host (action.Browse asked) = browsed published host asked
answer_to published host (action.Search asked) = searched published host asked
answer_to published host action.GetSystemUpdateId = answer.Number published.number
answer_to published host action.GetServiceResetToken = answer.Text published.token
answer_to published host action.GetSearchCapabilities = answer.Text search_capabilities
answer_to published host action.GetSortCapabilities = answer.Text sort_capabilities
