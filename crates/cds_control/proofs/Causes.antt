-- Why a control request gets its reply.
use Rattle.std.proofs.Common.{◌≡◌, ◌⊎◌, inl, inr, ℕ, List, None, Result, Ok, Err, refl, sym, subst}
use Rattle.std.specs.Prelude.{IsOk}
use Rattle.cds_http.specs.declared.message.Message.{Message}
use Rattle.cds_soap.specs.declared.action.Action.{Action}
use Rattle.cds_soap.specs.declared.action.Action.TheVariants as action
use Rattle.cds_soap.specs.declared.action.Asked.{Asked}
use Rattle.cds_soap.specs.declared.error.SoapError.{SoapError}
use Rattle.cds_soap.specs.declared.error.SoapError.TheVariants as error
use Rattle.cds_soap.specs.Control.{Control, AnswersAsk}
use Rattle.cds_soap.specs.Written.{answer_fields, written_answer}
use Rattle.cds_browse.specs.Browsing.{browse_answer}
use Rattle.cds_browse.specs.Searching.{search_answer}
use Rattle.cds_browse.specs.declared.error.BrowseError.{BrowseError}
use Rattle.cds_browse.specs.declared.page.Page.{Page}
use Rattle.cds_control.specs.Published.{Published}
use Rattle.cds_control.specs.Answering.{page_answer, answer_to}
use Rattle.cds_control.specs.Replies.{IsReplyTo, empty_reply}
use Rattle.cds_control.specs.Laws.{HasCause, HasNoDocument, replies_have_causes}

-- what is answered to an action, where its message asks for it
answered : (published : Published) (host : List ℕ) (m : Message) (text : List ℕ) (asked : Action) (version : ℕ) → Control m asked version
    → text ≡ written_answer asked version (answer_to published host asked) None → HasCause published m text
answered published host m text (action.Browse request) version control is = by (browse_answer published.number published.rows request) refl is
  where
    by : (answer : Result Page BrowseError) → browse_answer published.number published.rows request ≡ answer
        → text ≡ written_answer (action.Browse request) version (page_answer request.filter host published.rows answer) None → HasCause published m text
    by (Ok page) e is =
        inr (inr (inr (record { fields = answer_fields None; body = _; written = is }, (action.Browse request, version, control, subst IsOk (sym e) refl))))
    by (Err refusal) e is = inr (inr (inl (refusal, is, (action.Browse request, version, control, e))))
answered published host m text (action.Search request) version control is = by (search_answer published.number published.rows request) refl is
  where
    by : (answer : Result Page BrowseError) → search_answer published.number published.rows request ≡ answer
        → text ≡ written_answer (action.Search request) version (page_answer request.filter host published.rows answer) None → HasCause published m text
    by (Ok page) e is =
        inr (inr (inr (record { fields = answer_fields None; body = _; written = is }, (action.Search request, version, control, subst IsOk (sym e) refl))))
    by (Err refusal) e is = inr (inr (inl (refusal, is, (action.Search request, version, control, e))))
answered published host m text action.GetSystemUpdateId version control is =
    inr (inr (inr (record { fields = answer_fields None; body = _; written = is }, (action.GetSystemUpdateId, version, control, tt))))
answered published host m text action.GetServiceResetToken version control is =
    inr (inr (inr (record { fields = answer_fields None; body = _; written = is }, (action.GetServiceResetToken, version, control, tt))))
answered published host m text action.GetSearchCapabilities version control is =
    inr (inr (inr (record { fields = answer_fields None; body = _; written = is }, (action.GetSearchCapabilities, version, control, tt))))
answered published host m text action.GetSortCapabilities version control is =
    inr (inr (inr (record { fields = answer_fields None; body = _; written = is }, (action.GetSortCapabilities, version, control, tt))))

pub causes : replies_have_causes
causes published host m text is = by is.0 is.1 is.2
  where
    by : (read : Result Asked SoapError) → AnswersAsk m read → IsReplyTo published host read text
        → ((text ≡ empty_reply 400) × HasNoDocument m) ⊎ HasCause published m text
    by (Ok asked) reading is = inr (answered published host m text asked.action asked.version reading is)
    by (Err (error.Markup refusal)) reading is = inl (is, (refusal, reading.0))
    by (Err error.InvalidAction) reading is = inr (inl (is, reading))
    by (Err error.InvalidArgs) reading is = inr (inr (inl (is, reading)))
    by (Err error.NotAnswer) reading is = absurd is
    by (Err error.Mem) reading is = absurd is
