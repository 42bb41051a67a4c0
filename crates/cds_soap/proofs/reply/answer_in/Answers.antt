use Rattle.std.proofs.Common.{Ok, Err, subst}
use Rattle.cds_markup.specs.Decided.{Decides}
use Rattle.cds_soap.proofs.Saying.{no-document-answers, said-answers, request-answers-none}
use Rattle.cds_soap.proofs.reply.answer_in.Goals as goal

pub returns-in-Err : goal.returns-in-Err
returns-in-Err c =
    let refusal = c.in-Err.refusal in
    let read = subst (λ r. Decides c.as_slice.result.now r) c.in-Err.is c.read_document.ensures in
    no-document-answers c.args.message.now c.args.action.now refusal c.no_document.result c.no_document.ensures
    (subst (λ b. Decides b (Err refusal)) c.as_slice.ensures read)

pub returns-in-Reply : goal.returns-in-Reply
returns-in-Reply c =
    let element = c.in-Ok.element in
    let read = subst (λ r. Decides c.as_slice.result.now r) c.in-Ok.is c.read_document.ensures in
    let document = subst (λ b. Decides b (Ok element)) c.as_slice.ensures read in
    said-answers c.args.message.now c.args.action.now c.in-Reply.status c.name.result element c.said.result c.in-Reply.is document.0 c.name.ensures c.said.ensures

pub returns : goal.returns
returns c = request-answers-none c.args.message.now c.args.action.now c.in-Request.method c.in-Request.target c.in-Request.is
