-- The one message that the bytes are.
use Rattle.std.proofs.Common.{Ok, ap, ◌∙◌}
use Rattle.cds_replay.proofs.Controlled.{message-read, fed-more, fed-refused, ended-never}
use Rattle.cds_replay.proofs.control.message_of.Goals as goal

pub of_memory-requires : goal.of_memory-requires
of_memory-requires c =
    fed-refused c.args.side c.in_ok-reader.reader c.feed.new.self c.args.bytes.now c.feed.result c.in-Err.refusal c.in_ok-reader.ensures c.feed.ensures c.requires c.in-Err.is

pub unreachable-requires : goal.unreachable-requires
unreachable-requires c =
    fed-more c.args.side c.in_ok-reader.reader c.feed.new.self c.args.bytes.now c.feed.result c.in_ok-reader.ensures c.feed.ensures c.requires
    (c.in-Ok-More.is ∙ ap Ok c.in-Ok-More.field-0-is)

pub unreachable-requires-in-Err-finish : goal.unreachable-requires-in-Err-finish
unreachable-requires-in-Err-finish c =
    ended-never c.args.side c.in_ok-reader.reader c.feed.new.self c.args.bytes.now c.feed.result c.in-Ok-Whole.field-0-0 c.finish.result c.in-Err-finish.field-0
    c.in_ok-reader.ensures c.feed.ensures (c.in-Ok-Whole.is ∙ ap Ok c.in-Ok-Whole.field-0-is) c.finish.ensures c.in-Err-finish.is

pub returns : goal.returns
returns c = λ message decides.
    message-read c.args.side c.in_ok-reader.reader c.feed.new.self c.args.bytes.now message c.in-Ok.message c.feed.result c.in-Ok-Whole.field-0-0 c.finish.result
    c.in_ok-reader.ensures c.feed.ensures (c.in-Ok-Whole.is ∙ ap Ok c.in-Ok-Whole.field-0-is) c.finish.ensures c.in-Ok.is decides
