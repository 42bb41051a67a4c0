-- The reply to the message of the ask.
use Rattle.cds_replay.specs.Session.{script_start}
use Rattle.cds_replay.proofs.Controlled.{reply-is, asked-message, asked-unasked}
use Rattle.cds_replay.proofs.control.reply_to.Goals as goal

pub message_of-requires : goal.message_of-requires
message_of-requires c = asked-message c.asks_are_read.ensures c.args.ask c.args.request.now c.asks_fit.ensures c.requires

pub returns-clause-replies : goal.returns-clause-replies
returns-clause-replies c = λ wrap first commands stands plain.
    reply-is c.asks_are_read.ensures c.what_is_asked_is_answered.ensures wrap first commands c.args.now c.args.ask c.args.request.now c.in_ok-message.message
    c.new-reply.result.items c.handle.new.out.items plain c.asks_fit.ensures c.requires c.in_ok-message.ensures c.new-reply.ensures.items
    (c.in_ok-_note.ensures.replied (script_start wrap first) commands stands)

pub returns-clause-same : goal.returns-clause-same
returns-clause-same c =
    c.handle.ensures.same (asked-unasked c.asks_are_read.ensures c.args.ask c.args.request.now c.in_ok-message.message c.asks_fit.ensures c.requires c.in_ok-message.ensures)
