-- The jobs of a server run to their end between the two lines.
use Rattle.std.proofs.Common.{◌⊎◌, refl}
use Rattle.std.specs.Arc.{arc_value}
use Rattle.cds_outside.specs.Outside.{Rose, SinkTold}
use Rattle.cds_outside.specs.Told.{OutsideTold, SpawnerTold}
use Rattle.cds_turn.specs.Turn.{seat_told, start_of}
use Rattle.cds_serve.specs.declared.fault.Fault.TheVariants as fault
use Rattle.cds_serve.specs.Life.{IsCaused, WritesLife}
use Rattle.cds_serve.proofs.Crews.{all-accepted}
use Rattle.cds_serve.proofs.Lives.{cause-as, caused-as, exit, no-folders, on-ok, writes-both, writes-first, writes-none, writes-one}
use Rattle.cds_serve.proofs.Rounds.{rose-on}
use Rattle.cds_serve.proofs.life.live.Goals as goal

pub returns-in_err-running-clause-cause : goal.returns-in_err-running-clause-cause
returns-in_err-running-clause-cause g c =
    exit (λ r. IsCaused r (Rose (g.K.Sink.told c.args.sink.now).faults (g.K.Sink.told c.args.sink.now).faults)
    (Rose (g.O.Outside.told c.args.outside.now).faults (g.O.Outside.told c.args.outside.now).faults ⊎ Rose (g.O.W.Spawner.told c.args.spawner.now).faults (g.O.W.Spawner.told c.args.spawner.now).faults))
    c.from_residual.result fault.Mem c.from_residual.ensures.1 tt

pub returns-in_err-running-clause-writes : goal.returns-in_err-running-clause-writes
returns-in_err-running-clause-writes g c =
    exit (λ r. WritesLife r c.args.crew.port c.args.crew.requests (g.K.Sink.told c.args.sink.now).holds (g.K.Sink.told c.args.sink.now).holds) c.from_residual.result fault.Mem c.from_residual.ensures.1
    (writes-none c.args.crew.port c.args.crew.requests fault.Mem (g.K.Sink.told c.args.sink.now).holds)

pub returns-in_err-write_serving-clause-cause : goal.returns-in_err-write_serving-clause-cause
returns-in_err-write_serving-clause-cause g c =
    let e = c.in_err-write_serving.field-0.0 in
    exit (λ r. IsCaused r (Rose (g.K.Sink.told c.args.sink.now).faults (g.K.Sink.told c.write_serving.new.sink).faults)
    (Rose (g.O.Outside.told c.args.outside.now).faults (g.O.Outside.told c.args.outside.now).faults ⊎ Rose (g.O.W.Spawner.told c.args.spawner.now).faults (g.O.W.Spawner.told c.args.spawner.now).faults))
    c.from_residual-in_err-write_serving.result e c.from_residual-in_err-write_serving.ensures.1
    (caused-as e (Rose (g.K.Sink.told c.args.sink.now).faults (g.K.Sink.told c.write_serving.new.sink).faults) ⊥ _ _ c.in_err-write_serving.ensures.cause (λ p. p) (λ n. absurd n))

pub returns-in_err-write_serving-clause-writes : goal.returns-in_err-write_serving-clause-writes
returns-in_err-write_serving-clause-writes g c =
    let e = c.in_err-write_serving.field-0.0 in
    let before = (g.K.Sink.told c.args.sink.now).holds in
    let after = (g.K.Sink.told c.write_serving.new.sink).holds in
    exit (λ r. WritesLife r c.args.crew.port c.args.crew.requests before after) c.from_residual-in_err-write_serving.result e c.from_residual-in_err-write_serving.ensures.1
    (writes-first c.args.crew.port c.args.crew.requests e before after c.in_err-write_serving.ensures.written)

pub returns-in_err-turn-clause-cause : goal.returns-in_err-turn-clause-cause
returns-in_err-turn-clause-cause g c =
    let e = c.in_err-turn.field-0.0 in
    let sink : SinkTold = g.K.Sink.told c.args.sink.now in
    let sink' : SinkTold = g.K.Sink.told c.write_serving.new.sink in
    let old : OutsideTold = g.O.Outside.told c.args.outside.now in
    let new : OutsideTold = g.O.Outside.told c.run_crew.new.outside in
    let spawner : SpawnerTold = g.O.W.Spawner.told c.args.spawner.now in
    let spawner' : SpawnerTold = g.O.W.Spawner.told c.run_crew.new.spawner in
    exit (λ r. IsCaused r (Rose sink.faults sink'.faults) (Rose old.faults new.faults ⊎ Rose spawner.faults spawner'.faults))
    c.from_residual-in_err-turn.result e c.from_residual-in_err-turn.ensures.1
    (caused-as e ⊥ _ _ _ c.in_err-turn.ensures.cause (λ n. absurd n) (λ q. q))

pub returns-in_err-turn-clause-writes : goal.returns-in_err-turn-clause-writes
returns-in_err-turn-clause-writes g c =
    let e = c.in_err-turn.field-0.0 in
    let before = (g.K.Sink.told c.args.sink.now).holds in
    let after = (g.K.Sink.told c.write_serving.new.sink).holds in
    exit (λ r. WritesLife r c.args.crew.port c.args.crew.requests before after) c.from_residual-in_err-turn.result e c.from_residual-in_err-turn.ensures.1
    (writes-one c.args.crew.port c.args.crew.requests e c.in_ok-write_serving.field-0 before after c.in_ok-write_serving.ensures.written)

pub returns-clause-cause : goal.returns-clause-cause
returns-clause-cause g c =
    let sink : SinkTold = g.K.Sink.told c.args.sink.now in
    let mid : SinkTold = g.K.Sink.told c.write_serving.new.sink in
    let last : SinkTold = g.K.Sink.told c.write_served.new.sink in
    cause-as c.write_served.result (Rose mid.faults last.faults) ⊥ (Rose sink.faults last.faults) _ c.write_served.ensures.cause
    (λ rose. rose-on sink.faults mid.faults last.faults c.write_serving.ensures.never_falls rose) (λ n. absurd n)

pub returns-clause-writes : goal.returns-clause-writes
returns-clause-writes g c =
    let finished = c.in_ok-turn.field-0 in
    let counts = finished.counts in
    let crew = c.args.crew in
    writes-both crew.port crew.requests c.write_served.result c.in_ok-write_serving.field-0
    (record { accepted = counts.accepted; refused = counts.refused; memory = counts.memory })
    (g.K.Sink.told c.args.sink.now).holds (g.K.Sink.told c.write_serving.new.sink).holds (g.K.Sink.told c.write_served.new.sink).holds
    c.in_ok-turn.ensures.counts
    (all-accepted crew.port counts.accepted (start_of (arc_value crew.turn) crew.seat) (seat_told (arc_value finished.turn) finished.seat) c.requires.opened c.in_ok-turn.ensures.seen)
    c.in_ok-write_serving.ensures.written c.write_served.ensures.written

pub returns-clause-connections : goal.returns-clause-connections
returns-clause-connections g c = on-ok c.write_served.result _ c.in_ok-turn.ensures.connections

pub returns-clause-started : goal.returns-clause-started
returns-clause-started g c = on-ok c.write_served.result _ c.in_ok-turn.ensures.started

pub returns-in_err-running-clause-folders : goal.returns-in_err-running-clause-folders
returns-in_err-running-clause-folders g c = no-folders 4 (g.O.Outside.told c.args.outside.now).ended _ refl

pub returns-in_err-write_serving-clause-folders : goal.returns-in_err-write_serving-clause-folders
returns-in_err-write_serving-clause-folders g c = no-folders 4 (g.O.Outside.told c.args.outside.now).ended _ refl
