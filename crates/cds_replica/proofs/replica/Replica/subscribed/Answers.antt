use Rattle.cds_follow.specs.Inbox.{Accepts}
use Rattle.cds_replica.proofs.Turning.{accepted-stands, unless-no_memory}
use Rattle.cds_replica.proofs.Honest.{accepts-given}
use Rattle.cds_replica.proofs.replica.Replica.subscribed.Goals as goal

pub returns-clause-stands : goal.returns-clause-stands
returns-clause-stands c =
    unless-no_memory c.take_early-answer.result c.args.self.now c.take_early-answer.new.self (Accepts c.args.sid.0)
    (λ wrap turns stood. (accepted-stands wrap c.args.sid.0 turns c.args.self.now c.take_early-answer.new.self c.take_early-answer.result stood c.take_early-answer.ensures).0)

pub returns-clause-answer : goal.returns-clause-answer
returns-clause-answer c wrap turns stood =
    (accepted-stands wrap c.args.sid.0 turns c.args.self.now c.take_early-answer.new.self c.take_early-answer.result stood c.take_early-answer.ensures).1

pub returns-clause-given : goal.returns-clause-given
returns-clause-given c =
    accepts-given c.args.self.now c.take_early-answer.new.self c.args.sid.0 c.take_early-answer.result
    (λ wrap turns stood. accepted-stands wrap c.args.sid.0 turns c.args.self.now c.take_early-answer.new.self c.take_early-answer.result stood c.take_early-answer.ensures)
