-- A door and a spawner are asked for, and then all else; they come back where that fails.
use Rattle.std.proofs.Common.{Err, Ok, [], ◌∷◌, ◌⊎◌, ap, sym, subst, ◌∙◌, drop, le_trans}
use Rattle.std.specs.Prelude.{⊤}
use Rattle.cds_outside.specs.Asked.{ForDoor, ForSpawner}
use Rattle.cds_outside.specs.Outside.{Rose}
use Rattle.cds_outside.specs.Told.{DoorTold, OutsideTold}
use Rattle.cds_serve.specs.Life.{AsksFor, IsCaused, life_asks}
use Rattle.cds_serve.proofs.Lives.{asked-twice, asks-all, asks-front, caused-as, exit, keeps-asked, keeps-on, rose-end}
use Rattle.cds_serve.proofs.life.hire.Goals as goal

pub returns-in_err-front-clause-asks : goal.returns-in_err-front-clause-asks
returns-in_err-front-clause-asks g c =
    let old : OutsideTold = g.O.Outside.told c.args.outside.now in
    let new : OutsideTold = g.O.Outside.told c.ask_front.new.outside in
    let e = c.in_err-front.field-0.0 in
    exit (λ r. AsksFor r (life_asks c.args.order.now.port c.args.order.now.folder.now) old.asked new.asked) c.from_residual.result e c.from_residual.ensures.1
    (asks-front e (ForDoor c.args.order.now.port ∷ ForSpawner ∷ []) (drop 2 (life_asks c.args.order.now.port c.args.order.now.folder.now)) old.asked new.asked c.in_err-front.ensures.asks)

pub returns-in_err-front-clause-cause : goal.returns-in_err-front-clause-cause
returns-in_err-front-clause-cause g c =
    let old : OutsideTold = g.O.Outside.told c.args.outside.now in
    let new : OutsideTold = g.O.Outside.told c.ask_front.new.outside in
    let e = c.in_err-front.field-0.0 in
    exit (λ r. IsCaused r ⊥ (Rose old.faults new.faults)) c.from_residual.result e c.from_residual.ensures.1
    (caused-as e ⊥ _ ⊥ _ c.in_err-front.ensures.cause (λ n. n) (λ q. q))

pub returns-in-Ok-clause-asks : goal.returns-in-Ok-clause-asks
returns-in-Ok-clause-asks g c =
    let old : OutsideTold = g.O.Outside.told c.args.outside.now in
    let mid : OutsideTold = g.O.Outside.told c.ask_front.new.outside in
    let new : OutsideTold = g.O.Outside.told c.crew_at.new.outside in
    asks-all (Ok c.in-Ok.crew) c.in_ok-front.front (ForDoor c.args.order.now.port ∷ ForSpawner ∷ []) (drop 2 (life_asks c.args.order.now.port c.args.order.now.folder.now))
    old.asked mid.asked new.asked c.in_ok-front.ensures.asks c.in-Ok.ensures.takes.asked

pub returns-in-Ok-clause-none_given : goal.returns-in-Ok-clause-none_given
returns-in-Ok-clause-none_given g c =
    c.in-Ok.ensures.takes.none_given ∙ ap (λ (t : DoorTold). t.connections) c.in_ok-front.ensures.fresh.0

pub returns-in-Ok-clause-others : goal.returns-in-Ok-clause-others
returns-in-Ok-clause-others g c =
    asked-twice (g.O.Outside.told c.args.outside.now) (g.O.Outside.told c.ask_front.new.outside) (g.O.Outside.told c.crew_at.new.outside)
    c.in_ok-front.ensures.others c.in-Ok.ensures.takes.others

pub returns-in-Ok-clause-ended_stays : goal.returns-in-Ok-clause-ended_stays
returns-in-Ok-clause-ended_stays g c =
    let old : OutsideTold = g.O.Outside.told c.args.outside.now in
    let mid : OutsideTold = g.O.Outside.told c.ask_front.new.outside in
    let new : OutsideTold = g.O.Outside.told c.crew_at.new.outside in
    keeps-on old mid new c.ask_front.ensures.ended_stays (keeps-asked mid new c.in-Ok.ensures.takes.others)

pub returns-in-Ok-clause-never_falls : goal.returns-in-Ok-clause-never_falls
returns-in-Ok-clause-never_falls g c = le_trans c.ask_front.ensures.never_falls c.in-Ok.ensures.takes.never_falls

pub returns-in-Err-clause-asks : goal.returns-in-Err-clause-asks
returns-in-Err-clause-asks g c =
    let old : OutsideTold = g.O.Outside.told c.args.outside.now in
    let mid : OutsideTold = g.O.Outside.told c.ask_front.new.outside in
    let new : OutsideTold = g.O.Outside.told c.crew_at.new.outside in
    let e = c.in-Err.fault in
    subst (λ a. AsksFor {A = ⊤} (Err e) (life_asks c.args.order.now.port c.args.order.now.folder.now) old.asked a) (sym c.end_front.ensures.asked)
    (asks-all {B = ⊤} (Err e) c.in_ok-front.front (ForDoor c.args.order.now.port ∷ ForSpawner ∷ []) (drop 2 (life_asks c.args.order.now.port c.args.order.now.folder.now))
    old.asked mid.asked new.asked c.in_ok-front.ensures.asks c.in-Err.ensures.takes.asked)

pub returns-in-Err-clause-cause : goal.returns-in-Err-clause-cause
returns-in-Err-clause-cause g c =
    let old : OutsideTold = g.O.Outside.told c.args.outside.now in
    let mid : OutsideTold = g.O.Outside.told c.ask_front.new.outside in
    let now : OutsideTold = g.O.Outside.told c.crew_at.new.outside in
    let new : OutsideTold = g.O.Outside.told c.end_front.new.outside in
    let before : DoorTold = g.O.D.Door.told c.in_ok-front.front.door in
    let door : DoorTold = g.O.D.Door.told c.crew_at.new.door in
    caused-as c.in-Err.fault ⊥ (Rose mid.faults now.faults ⊎ Rose before.faults door.faults) ⊥ (Rose old.faults new.faults) c.in-Err.ensures.takes.cause (λ n. n)
    (rose-end old.faults mid.faults now.faults new.faults before.faults door.faults c.ask_front.ensures.never_falls c.in-Err.ensures.takes.never_falls
    c.end_front.ensures.never_falls (ap (λ (t : DoorTold). t.faults) c.in_ok-front.ensures.fresh.0) c.end_front.ensures.rose)

pub returns-in-Err-clause-ended_stays : goal.returns-in-Err-clause-ended_stays
returns-in-Err-clause-ended_stays g c =
    let old : OutsideTold = g.O.Outside.told c.args.outside.now in
    let mid : OutsideTold = g.O.Outside.told c.ask_front.new.outside in
    let now : OutsideTold = g.O.Outside.told c.crew_at.new.outside in
    let new : OutsideTold = g.O.Outside.told c.end_front.new.outside in
    keeps-on old now new (keeps-on old mid now c.ask_front.ensures.ended_stays (keeps-asked mid now c.in-Err.ensures.takes.others)) c.end_front.ensures.ended_stays

pub returns-in-Err-clause-never_falls : goal.returns-in-Err-clause-never_falls
returns-in-Err-clause-never_falls g c =
    le_trans c.ask_front.ensures.never_falls (le_trans c.in-Err.ensures.takes.never_falls c.end_front.ensures.never_falls)
