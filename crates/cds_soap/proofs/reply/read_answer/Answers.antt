use Rattle.std.proofs.Common.{subst}
use Rattle.cds_soap.specs.Found.{IsReplyIn, IsAnswerIn}
use Rattle.cds_soap.proofs.Saying.{answers-found, no-reply-answers, no-answer-answers}
use Rattle.cds_soap.proofs.reply.read_answer.Goals as goal

pub returns-in-None : goal.returns-in-None
returns-in-None c =
    let bytes = c.args.bytes.now in
    no-reply-answers bytes c.args.action.now (subst (λ f. IsReplyIn bytes f) c.in-None.is c.in_ok-message.ensures)

pub returns-in-Some-2 : goal.returns-in-Some-2
returns-in-Some-2 c =
    let bytes = c.args.bytes.now in
    let message = c.in-Some.message in
    let reply = subst (λ f. IsReplyIn bytes f) c.in-Some.is c.in_ok-message.ensures in
    answers-found bytes c.args.action.now message c.in-Some-2.answer reply (subst (λ f. IsAnswerIn message c.args.action.now f) c.in-Some-2.is c.in_ok-answer.ensures)

pub returns : goal.returns
returns c =
    let bytes = c.args.bytes.now in
    let message = c.in-Some.message in
    let reply = subst (λ f. IsReplyIn bytes f) c.in-Some.is c.in_ok-message.ensures in
    no-answer-answers bytes c.args.action.now message reply (subst (λ f. IsAnswerIn message c.args.action.now f) c.in-None-2.is c.in_ok-answer.ensures)
