use Rattle.std.proofs.Common.{subst}
use Rattle.cds_soap.proofs.Replies.{Answer, reply-found, reply-not-there}
use Rattle.cds_soap.proofs.reply.reply_in.Goals as goal

pub returns-in-Ok : goal.returns-in-Ok
returns-in-Ok c =
    let bytes = c.args.bytes.now in
    reply-found bytes c.in-Ok.message (subst (λ r. Answer bytes r) c.in-Ok.is c.read_reply.ensures)

pub returns-in-Err : goal.returns-in-Err
returns-in-Err c =
    let bytes = c.args.bytes.now in
    reply-not-there bytes c.in-Err.refusal c.no_reply.result c.no_reply.ensures (subst (λ r. Answer bytes r) c.in-Err.is c.read_reply.ensures)
