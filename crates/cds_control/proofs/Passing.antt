-- What is asked is answered, and a control request whose checks all pass is answered with status 200.
use Rattle.std.proofs.Common.{◌≡◌, ◌≢◌, ℕ, List, None, Result, Ok, Err, refl, sym, subst, true≢false}
use Rattle.std.specs.Prelude.{IsOk}
use Rattle.cds_soap.specs.declared.action.Action.{Action}
use Rattle.cds_soap.specs.declared.action.Action.TheVariants as action
use Rattle.cds_soap.specs.declared.action.Asked.{Asked}
use Rattle.cds_soap.specs.declared.error.SoapError.{SoapError}
use Rattle.cds_soap.specs.declared.error.SoapError.TheVariants as error
use Rattle.cds_soap.specs.Laws.{OneAsk}
use Rattle.cds_soap.specs.Written.{answer_fields, written_answer}
use Rattle.cds_browse.specs.Browsing.{browse_answer}
use Rattle.cds_browse.specs.Searching.{search_answer}
use Rattle.cds_browse.specs.declared.error.BrowseError.{BrowseError}
use Rattle.cds_browse.specs.declared.page.Page.{Page}
use Rattle.cds_control.specs.Published.{Published}
use Rattle.cds_control.specs.Answering.{page_answer, answer_to}
use Rattle.cds_control.specs.Replies.{IsReplyTo}
use Rattle.cds_control.specs.Laws.{HasStatus, Passes, passed_checks_get_200, what_is_asked_is_answered}

-- what is answered of a page
page-200 : (published : Published) (host filter text : List ℕ) (asked : Action) (version : ℕ) (answer : Result Page BrowseError) → IsOk answer
    → text ≡ written_answer asked version (page_answer filter host published.rows answer) None → HasStatus 200 text
page-200 published host filter text asked version (Ok page) passes is = record { fields = answer_fields None; body = _; written = is }
page-200 published host filter text asked version (Err refusal) passes is = absurd (true≢false (sym passes))

answered-200 : (published : Published) (host text : List ℕ) (asked : Action) (version : ℕ) → Passes published asked
    → text ≡ written_answer asked version (answer_to published host asked) None → HasStatus 200 text
answered-200 published host text (action.Browse request) version passes is =
    page-200 published host request.filter text (action.Browse request) version (browse_answer published.number published.rows request) passes is
answered-200 published host text (action.Search request) version passes is =
    page-200 published host request.filter text (action.Search request) version (search_answer published.number published.rows request) passes is
answered-200 published host text action.GetSystemUpdateId version passes is = record { fields = answer_fields None; body = _; written = is }
answered-200 published host text action.GetServiceResetToken version passes is = record { fields = answer_fields None; body = _; written = is }
answered-200 published host text action.GetSearchCapabilities version passes is = record { fields = answer_fields None; body = _; written = is }
answered-200 published host text action.GetSortCapabilities version passes is = record { fields = answer_fields None; body = _; written = is }

no-memory : (asked : Asked) (r : Result Asked SoapError) → r ≡ Ok asked → r ≢ Err error.Mem
no-memory asked r is e = absurd (cc)

-- what is read of a message that asks for an action is that
pub answers-it : OneAsk → what_is_asked_is_answered
answers-it one published host m asked text reading = (
  λ is.
      let same : is.0 ≡ Ok asked =
      one m is.0 (Ok asked) is.1 reading (λ e. subst (λ r. IsReplyTo published host r text) e is.2) (no-memory asked (Ok asked) refl) in
      subst (λ r. IsReplyTo published host r text) same is.2,
  λ e. (Ok asked, reading, e),
)

pub passed : OneAsk → passed_checks_get_200
passed one published host m asked version text control passes is =
    answered-200 published host text asked version passes ((answers-it one published host m (record { action = asked; version = version }) text control).0 is)
