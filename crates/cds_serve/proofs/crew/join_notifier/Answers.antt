-- The job and its answer go from one thread to another, and its seat comes back.
use Rattle.std.proofs.Common.{sym, subst, IfSome}
use denote.Param.Send.{sendable}
use Rattle.std.specs.Arc.{arc_value}
use Rattle.cds_turn.specs.Turn.{own_by}
use Rattle.cds_serve.specs.Jobs.{FollowTicks, IsHired}
use Rattle.cds_serve.proofs.Crews.{some-of, ticks-follow}
use Rattle.cds_serve.proofs.Crossing.{notified-send, notifier-send}
use Rattle.cds_serve.proofs.crew.join_notifier.Goals as goal

pub join-theirs-requires-send-J : goal.join-theirs-requires-send-J
join-theirs-requires-send-J g c κs within = search (notifier-send, sendable) depth 20

pub join-theirs-requires-send-J-Out : goal.join-theirs-requires-send-J-Out
join-theirs-requires-send-J-Out g c κs within = search (notified-send, sendable) depth 20

pub returns-in-Some-clause-own : goal.returns-in-Some-clause-own
returns-in-Some-clause-own g c =
    let running = c.in-Some.running in
    let hired = some-of c.args.notifier running (λ notifier. IsHired c.args.turn.now (arc_value notifier.turn) notifier.seat) c.in-Some.is c.requires.hired in
    subst (λ o. IfSome o (λ _. FollowTicks (own_by c.args.seat.now) (own_by c.join.new.into))) (sym c.in-Some.is)
    (ticks-follow (own_by c.args.seat.now) (own_by c.join-theirs.result.seat) (own_by c.join.new.into) (own_by running.seat) hired.2
    c.join-theirs.ensures.1.own c.join.ensures.own)
