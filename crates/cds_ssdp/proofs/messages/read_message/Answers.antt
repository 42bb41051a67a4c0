use Rattle.std.proofs.Common.{[], Some}
use Rattle.cds_ssdp.proofs.Begun.{fed-ends, refused-ends}
use Rattle.cds_ssdp.proofs.messages.read_message.Goals as goal

pub returns-in-Ok : goal.returns-in-Ok
returns-in-Ok c =
    let step = c.feed.ensures c.args.side (Some []) c.in_ok-reader.ensures in
    fed-ends c.args.side c.args.datagram.now c.in-Ok.field-0 c.feed.result step.0 c.finish.result c.in-Ok.is step.2 (c.finish.ensures c.args.side step.0 step.1)

pub returns-in-Err : goal.returns-in-Err
returns-in-Err c =
    let step = c.feed.ensures c.args.side (Some []) c.in_ok-reader.ensures in
    refused-ends c.args.side c.args.datagram.now c.in-Err.refusal c.feed.result step.0 c.in-Err.is step.2
