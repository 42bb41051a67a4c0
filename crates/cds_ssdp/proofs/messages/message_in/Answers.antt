use Rattle.std.proofs.Common.{subst}
use Rattle.cds_ssdp.proofs.Begun.{Answer, message-found, message-not-there}
use Rattle.cds_ssdp.proofs.messages.message_in.Goals as goal

pub returns-in-Ok : goal.returns-in-Ok
returns-in-Ok c =
    let bytes = c.args.datagram.now in
    message-found c.args.side bytes c.in-Ok.message (subst (λ r. Answer c.args.side bytes r) c.in-Ok.is c.read_message.ensures)

pub returns-in-Err : goal.returns-in-Err
returns-in-Err c =
    let bytes = c.args.datagram.now in
    message-not-there c.args.side bytes c.in-Err.refusal c.no_message.result c.no_message.ensures (subst (λ r. Answer c.args.side bytes r) c.in-Err.is c.read_message.ensures)
