use Rattle.cds_replica.proofs.Turning.{arrived-stands, unless-note}
use Rattle.cds_replica.proofs.Honest.{hears-given}
use Rattle.cds_replica.proofs.replica.Replica.notify.Goals as goal

pub returns-clause-stands : goal.returns-clause-stands
returns-clause-stands c =
    unless-note c.arrive-answer.result c.args.self.now c.arrive-answer.new.self c.args.note
    (λ wrap turns stood. (arrived-stands wrap c.args.note turns c.args.self.now c.arrive-answer.new.self c.arrive-answer.result stood c.arrive-answer.ensures).0)

pub returns-clause-answer : goal.returns-clause-answer
returns-clause-answer c wrap turns stood =
    (arrived-stands wrap c.args.note turns c.args.self.now c.arrive-answer.new.self c.arrive-answer.result stood c.arrive-answer.ensures).1

pub returns-clause-given : goal.returns-clause-given
returns-clause-given c =
    hears-given c.args.self.now c.arrive-answer.new.self c.args.note c.arrive-answer.result
    (λ wrap turns stood. arrived-stands wrap c.args.note turns c.args.self.now c.arrive-answer.new.self c.arrive-answer.result stood c.arrive-answer.ensures)
