-- The spawner comes back, and then the door.
use Rattle.std.proofs.Common.{ap, ◌∙◌, le_trans, refl}
use Rattle.cds_outside.specs.Outside.{raised}
use Rattle.cds_outside.specs.Told.{OutsideTold}
use Rattle.cds_serve.proofs.Lives.{back-more, back-on, came-back, keeps, keeps-door, keeps-on}
use Rattle.cds_serve.proofs.life.end_front.Goals as goal

pub returns-clause-connections : goal.returns-clause-connections
returns-clause-connections g c =
    c.end_door.ensures.connections ∙ ap (λ n. raised n (g.O.D.Door.told c.args.front.door).connections) (ap (λ (t : OutsideTold). t.connections) c.end_spawner.ensures.others_stay)

pub returns-clause-started : goal.returns-clause-started
returns-clause-started g c = ap (λ (t : OutsideTold). t.started) c.end_door.ensures.others_stay ∙ c.end_spawner.ensures.started

pub returns-clause-asked : goal.returns-clause-asked
returns-clause-asked g c =
    ap (λ (t : OutsideTold). t.asked) c.end_door.ensures.others_stay ∙ ap (λ (t : OutsideTold). t.asked) c.end_spawner.ensures.others_stay

pub returns-clause-rose : goal.returns-clause-rose
returns-clause-rose g c = back-on _ _ _ _ c.end_spawner.ensures.never_falls (came-back _ _ _ c.end_door.ensures.faults)

pub returns-clause-rose_spawner : goal.returns-clause-rose_spawner
returns-clause-rose_spawner g c = back-more _ _ _ _ (came-back _ _ _ c.end_spawner.ensures.faults) c.end_door.ensures.never_falls

pub returns-clause-ended_stays : goal.returns-clause-ended_stays
returns-clause-ended_stays g c =
    let old : OutsideTold = g.O.Outside.told c.args.outside.now in
    let mid : OutsideTold = g.O.Outside.told c.end_spawner.new.self in
    let new : OutsideTold = g.O.Outside.told c.end_door.new.self in
    keeps-on old mid new (keeps old mid _ c.end_spawner.ensures.others_stay refl refl) (keeps-door mid new c.end_door.ensures.others_stay)

pub returns-clause-never_falls : goal.returns-clause-never_falls
returns-clause-never_falls g c = le_trans c.end_spawner.ensures.never_falls c.end_door.ensures.never_falls
