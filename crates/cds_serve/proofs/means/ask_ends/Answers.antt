-- What a worker takes, one after the other.
use Rattle.std.proofs.Common.{[], ◌∷◌, Ok, Err}
use Rattle.std.specs.Prelude.{⊤}
use Rattle.cds_outside.specs.Asked.{ForClock, ForFolder, ForLink}
use Rattle.cds_outside.specs.Told.{DoorTold, OutsideTold}
use Rattle.cds_serve.proofs.Lives.{beside-door, takes-exit, takes-handle, takes-then}
use Rattle.cds_serve.proofs.means.ask_ends.Goals as goal

pub returns-in_err-clock-clause-takes : goal.returns-in_err-clock-clause-takes
returns-in_err-clock-clause-takes g c =
    let old : OutsideTold = g.O.Outside.told c.args.outside.now in
    let new : OutsideTold = g.O.Outside.told c.ask_clock.new.outside in
    let door : DoorTold = g.O.D.Door.told c.args.door.now in
    let e = c.in_err-clock.field-0.0 in
    takes-exit c.from_residual.result e (ForClock ∷ []) (ForLink ∷ ForFolder c.args.path.now ∷ []) old new door door c.from_residual.ensures.1
    (beside-door (Err e) (ForClock ∷ []) old new door c.in_err-clock.ensures.asks)

pub returns-in_err-link-clause-takes : goal.returns-in_err-link-clause-takes
returns-in_err-link-clause-takes g c =
    let old : OutsideTold = g.O.Outside.told c.args.outside.now in
    let mid : OutsideTold = g.O.Outside.told c.ask_clock.new.outside in
    let new : OutsideTold = g.O.Outside.told c.ask_link.new.outside in
    let door : DoorTold = g.O.D.Door.told c.args.door.now in
    let e = c.in_err-link.field-0.0 in
    takes-exit c.from_residual-in_err-link.result e (ForClock ∷ ForLink ∷ []) (ForFolder c.args.path.now ∷ []) old new door door c.from_residual-in_err-link.ensures.1
    (takes-then (Err e) c.in_ok-clock.clock (ForClock ∷ []) (ForLink ∷ []) old mid new door door door
    (beside-door (Ok c.in_ok-clock.clock) (ForClock ∷ []) old mid door c.in_ok-clock.ensures.asks)
    (beside-door (Err e) (ForLink ∷ []) mid new door c.in_err-link.ensures))

pub returns-in_err-folder-clause-takes : goal.returns-in_err-folder-clause-takes
returns-in_err-folder-clause-takes g c =
    let old : OutsideTold = g.O.Outside.told c.args.outside.now in
    let mid : OutsideTold = g.O.Outside.told c.ask_clock.new.outside in
    let next : OutsideTold = g.O.Outside.told c.ask_link.new.outside in
    let new : OutsideTold = g.O.Outside.told c.ask_folder.new.outside in
    let door : DoorTold = g.O.D.Door.told c.args.door.now in
    let e = c.in_err-folder.field-0.0 in
    takes-exit c.from_residual-in_err-folder.result e (ForClock ∷ ForLink ∷ ForFolder c.args.path.now ∷ []) [] old new door door c.from_residual-in_err-folder.ensures.1
    (takes-then (Err e) c.in_ok-link.link (ForClock ∷ ForLink ∷ []) (ForFolder c.args.path.now ∷ []) old next new door door door
    (takes-then (Ok c.in_ok-link.link) c.in_ok-clock.clock (ForClock ∷ []) (ForLink ∷ []) old mid next door door door
    (beside-door (Ok c.in_ok-clock.clock) (ForClock ∷ []) old mid door c.in_ok-clock.ensures.asks)
    (beside-door (Ok c.in_ok-link.link) (ForLink ∷ []) mid next door c.in_ok-link.ensures))
    (beside-door (Err e) (ForFolder c.args.path.now ∷ []) next new door c.in_err-folder.ensures))

pub returns-in_err-door-clause-takes : goal.returns-in_err-door-clause-takes
returns-in_err-door-clause-takes g c =
    let old : OutsideTold = g.O.Outside.told c.args.outside.now in
    let mid : OutsideTold = g.O.Outside.told c.ask_clock.new.outside in
    let next : OutsideTold = g.O.Outside.told c.ask_link.new.outside in
    let new : OutsideTold = g.O.Outside.told c.ask_folder.new.outside in
    let door : DoorTold = g.O.D.Door.told c.args.door.now in
    let after : DoorTold = g.O.D.Door.told c.ask_handle.new.door in
    let e = c.in_err-door.field-0.0 in
    let failed = c.in_err-door.ensures in
    takes-exit {A = ⊤} c.from_residual-in_err-door.result e (ForClock ∷ ForLink ∷ ForFolder c.args.path.now ∷ []) [] old new door after c.from_residual-in_err-door.ensures.1
    (takes-handle (Err e) c.in_ok-folder.folder (ForClock ∷ ForLink ∷ ForFolder c.args.path.now ∷ []) old new door after
    (takes-then (Ok c.in_ok-folder.folder) c.in_ok-link.link (ForClock ∷ ForLink ∷ []) (ForFolder c.args.path.now ∷ []) old next new door door door
    (takes-then (Ok c.in_ok-link.link) c.in_ok-clock.clock (ForClock ∷ []) (ForLink ∷ []) old mid next door door door
    (beside-door (Ok c.in_ok-clock.clock) (ForClock ∷ []) old mid door c.in_ok-clock.ensures.asks)
    (beside-door (Ok c.in_ok-link.link) (ForLink ∷ []) mid next door c.in_ok-link.ensures))
    (beside-door (Ok c.in_ok-folder.folder) (ForFolder c.args.path.now ∷ []) next new door c.in_ok-folder.ensures))
    failed.cause failed.connections_stay failed.never_falls)

pub returns-clause-takes : goal.returns-clause-takes
returns-clause-takes g c =
    let old : OutsideTold = g.O.Outside.told c.args.outside.now in
    let mid : OutsideTold = g.O.Outside.told c.ask_clock.new.outside in
    let next : OutsideTold = g.O.Outside.told c.ask_link.new.outside in
    let new : OutsideTold = g.O.Outside.told c.ask_folder.new.outside in
    let door : DoorTold = g.O.D.Door.told c.args.door.now in
    let after : DoorTold = g.O.D.Door.told c.ask_handle.new.door in
    takes-handle (Ok _) c.in_ok-folder.folder (ForClock ∷ ForLink ∷ ForFolder c.args.path.now ∷ []) old new door after
    (takes-then (Ok c.in_ok-folder.folder) c.in_ok-link.link (ForClock ∷ ForLink ∷ []) (ForFolder c.args.path.now ∷ []) old next new door door door
    (takes-then (Ok c.in_ok-link.link) c.in_ok-clock.clock (ForClock ∷ []) (ForLink ∷ []) old mid next door door door
    (beside-door (Ok c.in_ok-clock.clock) (ForClock ∷ []) old mid door c.in_ok-clock.ensures.asks)
    (beside-door (Ok c.in_ok-link.link) (ForLink ∷ []) mid next door c.in_ok-link.ensures))
    (beside-door (Ok c.in_ok-folder.folder) (ForFolder c.args.path.now ∷ []) next new door c.in_ok-folder.ensures))
    tt c.in_ok-door.ensures.connections_stay c.in_ok-door.ensures.never_falls

pub returns-clause-fresh_clock : goal.returns-clause-fresh_clock
returns-clause-fresh_clock g c = c.in_ok-clock.ensures.fresh
