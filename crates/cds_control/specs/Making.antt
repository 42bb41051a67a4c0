-- An action is answered in two parts. First rows are copied of what is published. Then the reply is written, and what is published
-- is needed no more (UPnP ContentDirectory:4).
use Rattle.std.specs.Prelude.{ℕ, IsTrue, List, [], length, None, Result, Ok, Err}
use Rattle.cds_object.specs.Object.{ObjectRow}
use Rattle.cds_didl.specs.Filter.{filter_of}
use Rattle.cds_didl.specs.Fragment.{didl_text}
use Rattle.cds_soap.specs.Names.{name_of_action}
use Rattle.cds_soap.specs.Written.{fits, written_answer}
use Rattle.cds_soap.specs.declared.action.Action.{Action}
use Rattle.cds_soap.specs.declared.action.Action.TheVariants as action
use Rattle.cds_soap.specs.declared.action.Asked.{Asked}
use Rattle.cds_soap.specs.declared.answer.Answer.{Answer}
use Rattle.cds_soap.specs.declared.answer.Answer.TheVariants as answer
use Rattle.cds_browse.specs.Browsing.{browse_answer}
use Rattle.cds_browse.specs.Searching.{search_answer}
use Rattle.cds_browse.specs.declared.error.BrowseError.{BrowseError}
use Rattle.cds_browse.specs.declared.page.Page.{Page}
use Rattle.cds_control.specs.declared.made.Made.{Made}
use Rattle.cds_control.specs.declared.made.Made.TheVariants as make
use Rattle.cds_control.specs.Published.{Published}
use Rattle.cds_control.specs.Capabilities.{search_capabilities, sort_capabilities}
use Rattle.cds_control.specs.Answering.{base_of, code_of, rows_with}

-- ---- what is made of an action

-- Browse and Search: the rows of the page, how many they are, how many match, and the update number
abbrev pub made_page : List ObjectRow → Result Page BrowseError → Made
made_page rows (Ok page) = make.Page (rows_with page.ids rows) (length page.ids) page.total page.update
made_page rows (Err refusal) = make.Answer (answer.Fault (code_of refusal))

abbrev pub made_to : Published → Action → Made
made_to published (action.Browse asked) = made_page published.rows (browse_answer published.number published.rows asked)
made_to published (action.Search asked) = made_page published.rows (search_answer published.number published.rows asked)
made_to published action.GetSystemUpdateId = make.Answer (answer.Number published.number)
made_to published action.GetServiceResetToken = make.Answer (answer.Text published.token)
made_to published action.GetSearchCapabilities = make.Answer (answer.Text search_capabilities)
made_to published action.GetSortCapabilities = make.Answer (answer.Text sort_capabilities)

-- ---- what is written of it

-- the filter of an action; only Browse and Search have one
abbrev pub filter_in : Action → List ℕ
filter_in (action.Browse asked) = asked.filter
filter_in (action.Search asked) = asked.filter
filter_in other = []

-- the answer to an action, if the tracks are at this host
abbrev pub made_answer : List ℕ → Action → Made → Answer
made_answer host asked (make.Answer given) = given
made_answer host asked (make.Page rows returned total update) =
    answer.Page (didl_text (filter_of (filter_in asked)) (base_of host) rows) returned total update

-- the reply, in the version that was asked
abbrev pub written_made : List ℕ → Asked → Made → List ℕ
written_made host asked made = written_answer asked.action asked.version (made_answer host asked.action made) None

-- What was made is an answer to such an action.
abbrev pub FitsAction : List ℕ → Action → Made → Type 0
FitsAction host asked made = IsTrue (fits (name_of_action asked) (made_answer host asked made))
