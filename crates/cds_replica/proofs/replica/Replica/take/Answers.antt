use Rattle.std.proofs.Common.{ap, subst}
use Rattle.cds_follow.specs.Inbox.{Shows}
use Rattle.cds_replica.specs.Steps.{IsStep, answers}
use Rattle.cds_replica.specs.State.{KeptKnown, ReplicaState}
use Rattle.cds_replica.proofs.Turning.{answered-stands, unless-mem}
use Rattle.cds_replica.proofs.Honest.{takes-given}
use Rattle.cds_replica.proofs.Attempted.{takes-by_attempt}
use Rattle.cds_replica.proofs.replica.Replica.take.Goals as goal

pub returns-clause-stands : goal.returns-clause-stands
returns-clause-stands c =
    let new : ReplicaState = record { known = c.take-answer.new.self; inbox = c.self.inside.inbox } in
    let step = subst (λ (known : KeptKnown). IsStep (answers known known.phase c.args.shown) known c.take-answer.new.self c.take-answer.result) (ap (λ (kept : ReplicaState). kept.known) c.self.view_is) c.take-answer.ensures.outcome in
    unless-mem c.take-answer.result c.args.self.now new (Shows c.args.shown)
    (λ wrap turns stood. (answered-stands wrap c.args.shown turns c.args.self.now new c.take-answer.result stood (ap (λ (kept : ReplicaState). kept.inbox) c.self.view_is) step).0)

pub returns-clause-answer : goal.returns-clause-answer
returns-clause-answer c wrap turns stood =
    let new : ReplicaState = record { known = c.take-answer.new.self; inbox = c.self.inside.inbox } in
    let step = subst (λ (known : KeptKnown). IsStep (answers known known.phase c.args.shown) known c.take-answer.new.self c.take-answer.result) (ap (λ (kept : ReplicaState). kept.known) c.self.view_is) c.take-answer.ensures.outcome in
    (answered-stands wrap c.args.shown turns c.args.self.now new c.take-answer.result stood (ap (λ (kept : ReplicaState). kept.inbox) c.self.view_is) step).1

pub returns-clause-given : goal.returns-clause-given
returns-clause-given c =
    let new : ReplicaState = record { known = c.take-answer.new.self; inbox = c.self.inside.inbox } in
    let step = subst (λ (known : KeptKnown). IsStep (answers known known.phase c.args.shown) known c.take-answer.new.self c.take-answer.result) (ap (λ (kept : ReplicaState). kept.known) c.self.view_is) c.take-answer.ensures.outcome in
    takes-given c.args.self.now new c.args.shown c.take-answer.result
    (λ wrap turns stood. answered-stands wrap c.args.shown turns c.args.self.now new c.take-answer.result stood (ap (λ (kept : ReplicaState). kept.inbox) c.self.view_is) step)

pub returns-clause-attempt : goal.returns-clause-attempt
returns-clause-attempt c = takes-by_attempt c.args.self.now c.args.shown c.take-answer.result (returns-clause-answer c)
