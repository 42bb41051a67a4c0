-- A door and a spawner are asked for; without a spawner the door comes back.
use Rattle.std.proofs.Common.{Err, Ok, [], ◌∷◌, ap, subst, sym, le_trans}
use Rattle.std.specs.Prelude.{⊤}
use Rattle.cds_outside.specs.Asked.{ForDoor, ForSpawner}
use Rattle.cds_outside.specs.Outside.{Rose}
use Rattle.cds_outside.specs.Told.{OutsideTold}
use Rattle.cds_serve.specs.Life.{AsksFor, IsCaused}
use Rattle.cds_serve.proofs.Lives.{asked-twice, asks-all, asks-front, caused-as, exit, keeps-asked, keeps-door, keeps-on}
use Rattle.cds_serve.proofs.Rounds.{rose-more, rose-on}
use Rattle.cds_serve.proofs.life.ask_front.Goals as goal

pub returns-in_err-door-clause-asks : goal.returns-in_err-door-clause-asks
returns-in_err-door-clause-asks g c =
    let old : OutsideTold = g.O.Outside.told c.args.outside.now in
    let new : OutsideTold = g.O.Outside.told c.ask_door.new.outside in
    let e = c.in_err-door.field-0.0 in
    exit (λ r. AsksFor r (ForDoor c.args.port ∷ ForSpawner ∷ []) old.asked new.asked) c.from_residual.result e c.from_residual.ensures.1
    (asks-front e (ForDoor c.args.port ∷ []) (ForSpawner ∷ []) old.asked new.asked c.in_err-door.ensures.asks.asked)

pub returns-in_err-door-clause-cause : goal.returns-in_err-door-clause-cause
returns-in_err-door-clause-cause g c =
    let old : OutsideTold = g.O.Outside.told c.args.outside.now in
    let new : OutsideTold = g.O.Outside.told c.ask_door.new.outside in
    let e = c.in_err-door.field-0.0 in
    exit (λ r. IsCaused r ⊥ (Rose old.faults new.faults)) c.from_residual.result e c.from_residual.ensures.1
    (caused-as e ⊥ _ ⊥ _ c.in_err-door.ensures.asks.cause (λ n. n) (λ q. q))

pub returns-in_err-door-clause-ended_stays : goal.returns-in_err-door-clause-ended_stays
returns-in_err-door-clause-ended_stays g c =
    keeps-asked (g.O.Outside.told c.args.outside.now) (g.O.Outside.told c.ask_door.new.outside) c.in_err-door.ensures.asks.others

pub returns-in-Ok-clause-asks : goal.returns-in-Ok-clause-asks
returns-in-Ok-clause-asks g c =
    let old : OutsideTold = g.O.Outside.told c.args.outside.now in
    let mid : OutsideTold = g.O.Outside.told c.ask_door.new.outside in
    let new : OutsideTold = g.O.Outside.told c.ask_spawner.new.outside in
    asks-all (Ok c.in-Ok.spawner) c.in_ok-door.door (ForDoor c.args.port ∷ []) (ForSpawner ∷ []) old.asked mid.asked new.asked
    c.in_ok-door.ensures.asks.asked c.in-Ok.ensures.asks.asked

pub returns-in-Ok-clause-others : goal.returns-in-Ok-clause-others
returns-in-Ok-clause-others g c =
    asked-twice (g.O.Outside.told c.args.outside.now) (g.O.Outside.told c.ask_door.new.outside) (g.O.Outside.told c.ask_spawner.new.outside)
    c.in_ok-door.ensures.asks.others c.in-Ok.ensures.asks.others

pub returns-in-Ok-clause-ended_stays : goal.returns-in-Ok-clause-ended_stays
returns-in-Ok-clause-ended_stays g c =
    let old : OutsideTold = g.O.Outside.told c.args.outside.now in
    let mid : OutsideTold = g.O.Outside.told c.ask_door.new.outside in
    let new : OutsideTold = g.O.Outside.told c.ask_spawner.new.outside in
    keeps-on old mid new (keeps-asked old mid c.in_ok-door.ensures.asks.others) (keeps-asked mid new c.in-Ok.ensures.asks.others)

pub returns-in-Ok-clause-never_falls : goal.returns-in-Ok-clause-never_falls
returns-in-Ok-clause-never_falls g c = le_trans c.in_ok-door.ensures.asks.never_falls c.in-Ok.ensures.asks.never_falls

pub returns-in-Err-clause-asks : goal.returns-in-Err-clause-asks
returns-in-Err-clause-asks g c =
    let old : OutsideTold = g.O.Outside.told c.args.outside.now in
    let mid : OutsideTold = g.O.Outside.told c.ask_door.new.outside in
    let new : OutsideTold = g.O.Outside.told c.ask_spawner.new.outside in
    let e = c.in-Err.fault in
    subst (λ a. AsksFor {A = ⊤} (Err e) (ForDoor c.args.port ∷ ForSpawner ∷ []) old.asked a) (sym (ap (λ (t : OutsideTold). t.asked) c.end_door.ensures.others_stay))
    (asks-all {B = ⊤} (Err e) c.in_ok-door.door (ForDoor c.args.port ∷ []) (ForSpawner ∷ []) old.asked mid.asked new.asked
    c.in_ok-door.ensures.asks.asked c.in-Err.ensures.asks.asked)

pub returns-in-Err-clause-cause : goal.returns-in-Err-clause-cause
returns-in-Err-clause-cause g c =
    let old : OutsideTold = g.O.Outside.told c.args.outside.now in
    let mid : OutsideTold = g.O.Outside.told c.ask_door.new.outside in
    let now : OutsideTold = g.O.Outside.told c.ask_spawner.new.outside in
    let new : OutsideTold = g.O.Outside.told c.end_door.new.self in
    caused-as c.in-Err.fault ⊥ (Rose mid.faults now.faults) ⊥ (Rose old.faults new.faults) c.in-Err.ensures.asks.cause (λ n. n)
    (λ rose. rose-on old.faults mid.faults new.faults c.in_ok-door.ensures.asks.never_falls (rose-more mid.faults now.faults new.faults rose c.end_door.ensures.never_falls))

pub returns-in-Err-clause-ended_stays : goal.returns-in-Err-clause-ended_stays
returns-in-Err-clause-ended_stays g c =
    let old : OutsideTold = g.O.Outside.told c.args.outside.now in
    let mid : OutsideTold = g.O.Outside.told c.ask_door.new.outside in
    let now : OutsideTold = g.O.Outside.told c.ask_spawner.new.outside in
    let new : OutsideTold = g.O.Outside.told c.end_door.new.self in
    keeps-on old now new (keeps-on old mid now (keeps-asked old mid c.in_ok-door.ensures.asks.others) (keeps-asked mid now c.in-Err.ensures.asks.others))
    (keeps-door now new c.end_door.ensures.others_stay)

pub returns-in-Err-clause-never_falls : goal.returns-in-Err-clause-never_falls
returns-in-Err-clause-never_falls g c =
    le_trans c.in_ok-door.ensures.asks.never_falls (le_trans c.in-Err.ensures.asks.never_falls c.end_door.ensures.never_falls)
