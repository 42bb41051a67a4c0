-- Answers that are written are read back.
use Rattle.std.proofs.Common.{ℕ, ◌≤◌, Bool, true, Option, List, ◌++◌, map, length, refl, arith, inr}
use Rattle.cds_base.specs.declared.limits.TheConstants.{INPUT_LIMIT}
use Rattle.cds_http.specs.declared.message.Side.TheVariants.{Reply}
use Rattle.cds_http.specs.declared.message.Start.TheVariants.{Reply as of_reply}
use Rattle.cds_http.specs.declared.message.Message.{Message}
use Rattle.cds_http.specs.Known.{Whole}
use Rattle.cds_http.specs.Head.{kept_fields}
use Rattle.cds_http.specs.Decided.{Decides}
use Rattle.cds_http.specs.Returned.{given_pair, last_pairs, own_pairs}
use Rattle.cds_http.proofs.Returning.{replies_are_read_back}
use Rattle.cds_soap.specs.declared.action.Action.{Action}
use Rattle.cds_soap.specs.declared.answer.Answer.{Answer}
use Rattle.cds_soap.specs.Names.{name_of_action}
use Rattle.cds_soap.specs.Answered.{Answered}
use Rattle.cds_soap.specs.Written.{answer_fields, answer_body, answer_status, written_answer, CanBeToken}
use Rattle.cds_soap.specs.Laws.{AnswersAreRead}
use Rattle.cds_soap.proofs.Replies.{reply-found}
use Rattle.cds_soap.proofs.Envelopes.{envelope_said}
use Rattle.cds_soap.proofs.AnswerBodies.{answer_said, answer-document, answer-says}
use Rattle.cds_soap.proofs.Heads.{answer-fields-back, few-answer-fields, answer-token, short-reply, status-low, status-high}

abbrev message_of : Action → ℕ → Answer → Option (List ℕ) → Message
message_of asked version given token = record {
  start = of_reply (answer_status given);
  fields = kept_fields (own_pairs ++ map given_pair (answer_fields token) ++ last_pairs (length (answer_body (name_of_action asked) version given)));
  body = answer_body (name_of_action asked) version given;
}

answers-whole : (asked : Action) (version : ℕ) (given : Answer) (token : Option (List ℕ)) (more : List ℕ) (ended : Bool) → CanBeToken token
    → length (answer_body (name_of_action asked) version given) ≤ INPUT_LIMIT
    → Decides ended Reply (written_answer asked version given token ++ more) (Whole (message_of asked version given token) more)
answers-whole asked version given token more ended can short =
    let body = answer_body (name_of_action asked) version given in
    let few = few-answer-fields token in
    replies_are_read_back (answer_status given) (answer_fields token) body more ended (status-low given) (status-high given) (answer-fields-back token can) (omega (arith, few))
    (short-reply given token (length body) can short) short

pub answers-are-read : AnswersAreRead
answers-are-read asked version given token more ended is fit allowed can short =
    let n = name_of_action asked in
    let m = message_of asked version given token in
    let answered : Answered m asked given =
    (envelope_said (answer_said n version given), answer-document n version given is fit allowed short, answer-says n version given is fit allowed) in
    let found = reply-found (written_answer asked version given token ++ more) m (more, inr (Whole m more, answers-whole asked version given token more true can short, refl, refl)) in
    record {
      message = m;
      whole = answers-whole asked version given token more ended can short;
      token_is = answer-token token (length (answer_body n version given));
      answered = answered;
      answers = (m, found.0, found.1, answered);
    }
