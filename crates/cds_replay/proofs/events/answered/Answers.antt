-- The message that the bytes are is handled.
use Rattle.cds_replay.proofs.EventAnswers.{handled}
use Rattle.cds_replay.proofs.events.answered.Goals as goal

pub returns : goal.returns
returns c = λ start commands stands.
    handled c.handle.result start commands c.args.now c.args.request.now c.args.reply.now.items c.handle.new.out.items c.in_ok-message.message c.handle.new.self c.requires
    c.in_ok-message.ensures (c.handle.ensures.replied start commands stands) (c.handle.ensures.stands start commands stands)
    (c.handle.ensures.note start commands stands) c.handle.ensures.delivered
