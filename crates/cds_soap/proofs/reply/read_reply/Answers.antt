use Rattle.std.proofs.Common.{[], Some}
use Rattle.cds_http.specs.declared.message.Side.TheVariants.{Reply}
use Rattle.cds_soap.proofs.Replies.{fed-ends, refused-ends}
use Rattle.cds_soap.proofs.reply.read_reply.Goals as goal

pub returns-in-Ok : goal.returns-in-Ok
returns-in-Ok c =
    let step = c.feed.ensures Reply (Some []) c.in_ok-reader.ensures in
    fed-ends c.args.bytes.now c.in-Ok.field-0 c.feed.result step.0 c.finish.result c.in-Ok.is step.2 (c.finish.ensures Reply step.0 step.1)

pub returns-in-Err : goal.returns-in-Err
returns-in-Err c =
    let step = c.feed.ensures Reply (Some []) c.in_ok-reader.ensures in
    refused-ends c.args.bytes.now c.in-Err.refusal c.feed.result step.0 c.in-Err.is step.2
