-- What is made of an action is the answer to it.
use Rattle.std.proofs.Common.{◌≡◌, ℕ, List, IsTrue, Result, Ok, Err, refl, sym, subst}
use Rattle.cds_browse.specs.Browsing.{browse_answer}
use Rattle.cds_browse.specs.Searching.{search_answer}
use Rattle.cds_browse.specs.declared.error.BrowseError.{BrowseError}
use Rattle.cds_browse.specs.declared.error.BrowseError.TheVariants.{InvalidArgs, NoObject, NoContainer, BadCriteria, BadSort, Mem}
use Rattle.cds_browse.specs.declared.page.Page.{Page}
use Rattle.cds_soap.specs.Names.{name_of_action}
use Rattle.cds_soap.specs.Written.{fits, is_known_code}
use Rattle.cds_soap.specs.declared.action.Action.{Action}
use Rattle.cds_soap.specs.declared.action.Action.TheVariants as action
use Rattle.cds_soap.specs.declared.action.ActionName.TheVariants as name
use Rattle.cds_soap.specs.declared.answer.Answer.{Answer}
use Rattle.cds_control.specs.Published.{Published}
use Rattle.cds_control.specs.Answering.{answer_to, code_of, page_answer}
use Rattle.cds_control.specs.Making.{FitsAction, made_answer, made_page, made_to}

pub answer-made : (published : Published) (host : List ℕ) (asked : Action) → made_answer host asked (made_to published asked) ≡ answer_to published host asked
answer-made published host (action.Browse request) = by (browse_answer published.number published.rows request)
  where
    by : (r : Result Page BrowseError)
        → made_answer host (action.Browse request) (made_page published.rows r) ≡ page_answer request.filter host published.rows r
    by (Ok page) = refl
    by (Err refusal) = refl
answer-made published host (action.Search request) = by (search_answer published.number published.rows request)
  where
    by : (r : Result Page BrowseError)
        → made_answer host (action.Search request) (made_page published.rows r) ≡ page_answer request.filter host published.rows r
    by (Ok page) = refl
    by (Err refusal) = refl
answer-made published host action.GetSystemUpdateId = refl
answer-made published host action.GetServiceResetToken = refl
answer-made published host action.GetSearchCapabilities = refl
answer-made published host action.GetSortCapabilities = refl

code-known : (refusal : BrowseError) → IsTrue (is_known_code (code_of refusal))
code-known InvalidArgs = refl
code-known NoObject = refl
code-known NoContainer = refl
code-known (BadCriteria at) = refl
code-known (BadSort at) = refl
code-known Mem = refl

answer-fits : (published : Published) (host : List ℕ) (asked : Action) → IsTrue (fits (name_of_action asked) (answer_to published host asked))
answer-fits published host (action.Browse request) = by (browse_answer published.number published.rows request)
  where
    by : (r : Result Page BrowseError) → IsTrue (fits name.Browse (page_answer request.filter host published.rows r))
    by (Ok page) = refl
    by (Err refusal) = code-known refusal
answer-fits published host (action.Search request) = by (search_answer published.number published.rows request)
  where
    by : (r : Result Page BrowseError) → IsTrue (fits name.Search (page_answer request.filter host published.rows r))
    by (Ok page) = refl
    by (Err refusal) = code-known refusal
answer-fits published host action.GetSystemUpdateId = refl
answer-fits published host action.GetServiceResetToken = refl
answer-fits published host action.GetSearchCapabilities = refl
answer-fits published host action.GetSortCapabilities = refl

-- it is an answer to such an action
pub made-fits : (published : Published) (host : List ℕ) (asked : Action) → FitsAction host asked (made_to published asked)
made-fits published host asked =
    subst (λ (given : Answer). IsTrue (fits (name_of_action asked) given)) (sym (answer-made published host asked)) (answer-fits published host asked)
