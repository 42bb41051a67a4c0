-- What the jobs take, one after the other.
use Rattle.std.proofs.Common.{[], ◌∷◌, ◌++◌, Ok, Err}
use Rattle.cds_outside.specs.Asked.{ForClock, ForFolder, ForLink}
use Rattle.cds_outside.specs.Told.{DoorTold, OutsideTold}
use Rattle.cds_serve.specs.Life.{worker_asks}
use Rattle.cds_serve.proofs.Lives.{beside-door, takes-exit, takes-ok, takes-then}
use Rattle.cds_serve.proofs.means.ask_means.Goals as goal

pub returns-in_err-folder-clause-takes : goal.returns-in_err-folder-clause-takes
returns-in_err-folder-clause-takes g c =
    let o0 : OutsideTold = g.O.Outside.told c.args.outside.now in
    let o1 : OutsideTold = g.O.Outside.told c.ask_folder.new.outside in
    let d0 : DoorTold = g.O.D.Door.told c.args.door.now in
    let e = c.in_err-folder.field-0.0 in
    takes-exit c.from_residual.result e (ForFolder c.args.path.now ∷ []) ((worker_asks c.args.path.now 4) ++ ((ForClock ∷ []) ++ ((ForClock ∷ []) ++ (ForLink ∷ [])))) o0 o1 d0 d0 c.from_residual.ensures.1
    (beside-door (Err e) (ForFolder c.args.path.now ∷ []) o0 o1 d0 c.in_err-folder.ensures)

pub returns-in_err-workers-clause-takes : goal.returns-in_err-workers-clause-takes
returns-in_err-workers-clause-takes g c =
    let o0 : OutsideTold = g.O.Outside.told c.args.outside.now in
    let o1 : OutsideTold = g.O.Outside.told c.ask_folder.new.outside in
    let o2 : OutsideTold = g.O.Outside.told c.ask_workers.new.outside in
    let d0 : DoorTold = g.O.D.Door.told c.args.door.now in
    let d1 : DoorTold = g.O.D.Door.told c.ask_workers.new.door in
    let e = c.in_err-workers.field-0.0 in
    takes-exit c.from_residual-in_err-workers.result e ((ForFolder c.args.path.now ∷ []) ++ (worker_asks c.args.path.now 4)) ((ForClock ∷ []) ++ ((ForClock ∷ []) ++ (ForLink ∷ []))) o0 o2 d0 d1 c.from_residual-in_err-workers.ensures.1
    (takes-then (Err e) c.in_ok-folder.folder (ForFolder c.args.path.now ∷ []) (worker_asks c.args.path.now 4) o0 o1 o2 d0 d0 d1
    (beside-door (Ok c.in_ok-folder.folder) (ForFolder c.args.path.now ∷ []) o0 o1 d0 c.in_ok-folder.ensures)
    c.in_err-workers.ensures.takes)

pub returns-in_err-scanner-clause-takes : goal.returns-in_err-scanner-clause-takes
returns-in_err-scanner-clause-takes g c =
    let o0 : OutsideTold = g.O.Outside.told c.args.outside.now in
    let o1 : OutsideTold = g.O.Outside.told c.ask_folder.new.outside in
    let o2 : OutsideTold = g.O.Outside.told c.ask_workers.new.outside in
    let o3 : OutsideTold = g.O.Outside.told c.ask_clock.new.outside in
    let d0 : DoorTold = g.O.D.Door.told c.args.door.now in
    let d1 : DoorTold = g.O.D.Door.told c.ask_workers.new.door in
    let e = c.in_err-scanner.field-0.0 in
    takes-exit c.from_residual-in_err-scanner.result e (((ForFolder c.args.path.now ∷ []) ++ (worker_asks c.args.path.now 4)) ++ (ForClock ∷ [])) ((ForClock ∷ []) ++ (ForLink ∷ [])) o0 o3 d0 d1 c.from_residual-in_err-scanner.ensures.1
    (takes-then (Err e) c.in_ok-workers.workers ((ForFolder c.args.path.now ∷ []) ++ (worker_asks c.args.path.now 4)) (ForClock ∷ []) o0 o2 o3 d0 d1 d1
    (takes-then (Ok c.in_ok-workers.workers) c.in_ok-folder.folder (ForFolder c.args.path.now ∷ []) (worker_asks c.args.path.now 4) o0 o1 o2 d0 d0 d1
    (beside-door (Ok c.in_ok-folder.folder) (ForFolder c.args.path.now ∷ []) o0 o1 d0 c.in_ok-folder.ensures)
    c.in_ok-workers.ensures.takes)
    (beside-door (Err e) (ForClock ∷ []) o2 o3 d1 c.in_err-scanner.ensures.asks))

pub returns-in_err-notifier-clause-takes : goal.returns-in_err-notifier-clause-takes
returns-in_err-notifier-clause-takes g c =
    let o0 : OutsideTold = g.O.Outside.told c.args.outside.now in
    let o1 : OutsideTold = g.O.Outside.told c.ask_folder.new.outside in
    let o2 : OutsideTold = g.O.Outside.told c.ask_workers.new.outside in
    let o3 : OutsideTold = g.O.Outside.told c.ask_clock.new.outside in
    let o4 : OutsideTold = g.O.Outside.told c.ask_clock-2.new.outside in
    let d0 : DoorTold = g.O.D.Door.told c.args.door.now in
    let d1 : DoorTold = g.O.D.Door.told c.ask_workers.new.door in
    let e = c.in_err-notifier.field-0.0 in
    takes-exit c.from_residual-in_err-notifier.result e ((((ForFolder c.args.path.now ∷ []) ++ (worker_asks c.args.path.now 4)) ++ (ForClock ∷ [])) ++ (ForClock ∷ [])) (ForLink ∷ []) o0 o4 d0 d1 c.from_residual-in_err-notifier.ensures.1
    (takes-then (Err e) c.in_ok-scanner.scanner (((ForFolder c.args.path.now ∷ []) ++ (worker_asks c.args.path.now 4)) ++ (ForClock ∷ [])) (ForClock ∷ []) o0 o3 o4 d0 d1 d1
    (takes-then (Ok c.in_ok-scanner.scanner) c.in_ok-workers.workers ((ForFolder c.args.path.now ∷ []) ++ (worker_asks c.args.path.now 4)) (ForClock ∷ []) o0 o2 o3 d0 d1 d1
    (takes-then (Ok c.in_ok-workers.workers) c.in_ok-folder.folder (ForFolder c.args.path.now ∷ []) (worker_asks c.args.path.now 4) o0 o1 o2 d0 d0 d1
    (beside-door (Ok c.in_ok-folder.folder) (ForFolder c.args.path.now ∷ []) o0 o1 d0 c.in_ok-folder.ensures)
    c.in_ok-workers.ensures.takes)
    (beside-door (Ok c.in_ok-scanner.scanner) (ForClock ∷ []) o2 o3 d1 c.in_ok-scanner.ensures.asks))
    (beside-door (Err e) (ForClock ∷ []) o3 o4 d1 c.in_err-notifier.ensures.asks))

pub returns-in_err-link-clause-takes : goal.returns-in_err-link-clause-takes
returns-in_err-link-clause-takes g c =
    let o0 : OutsideTold = g.O.Outside.told c.args.outside.now in
    let o1 : OutsideTold = g.O.Outside.told c.ask_folder.new.outside in
    let o2 : OutsideTold = g.O.Outside.told c.ask_workers.new.outside in
    let o3 : OutsideTold = g.O.Outside.told c.ask_clock.new.outside in
    let o4 : OutsideTold = g.O.Outside.told c.ask_clock-2.new.outside in
    let o5 : OutsideTold = g.O.Outside.told c.ask_link.new.outside in
    let d0 : DoorTold = g.O.D.Door.told c.args.door.now in
    let d1 : DoorTold = g.O.D.Door.told c.ask_workers.new.door in
    let e = c.in_err-link.field-0.0 in
    takes-exit c.from_residual-in_err-link.result e (((((ForFolder c.args.path.now ∷ []) ++ (worker_asks c.args.path.now 4)) ++ (ForClock ∷ [])) ++ (ForClock ∷ [])) ++ (ForLink ∷ [])) [] o0 o5 d0 d1 c.from_residual-in_err-link.ensures.1
    (takes-then (Err e) c.in_ok-notifier.notifier ((((ForFolder c.args.path.now ∷ []) ++ (worker_asks c.args.path.now 4)) ++ (ForClock ∷ [])) ++ (ForClock ∷ [])) (ForLink ∷ []) o0 o4 o5 d0 d1 d1
    (takes-then (Ok c.in_ok-notifier.notifier) c.in_ok-scanner.scanner (((ForFolder c.args.path.now ∷ []) ++ (worker_asks c.args.path.now 4)) ++ (ForClock ∷ [])) (ForClock ∷ []) o0 o3 o4 d0 d1 d1
    (takes-then (Ok c.in_ok-scanner.scanner) c.in_ok-workers.workers ((ForFolder c.args.path.now ∷ []) ++ (worker_asks c.args.path.now 4)) (ForClock ∷ []) o0 o2 o3 d0 d1 d1
    (takes-then (Ok c.in_ok-workers.workers) c.in_ok-folder.folder (ForFolder c.args.path.now ∷ []) (worker_asks c.args.path.now 4) o0 o1 o2 d0 d0 d1
    (beside-door (Ok c.in_ok-folder.folder) (ForFolder c.args.path.now ∷ []) o0 o1 d0 c.in_ok-folder.ensures)
    c.in_ok-workers.ensures.takes)
    (beside-door (Ok c.in_ok-scanner.scanner) (ForClock ∷ []) o2 o3 d1 c.in_ok-scanner.ensures.asks))
    (beside-door (Ok c.in_ok-notifier.notifier) (ForClock ∷ []) o3 o4 d1 c.in_ok-notifier.ensures.asks))
    (beside-door (Err e) (ForLink ∷ []) o4 o5 d1 c.in_err-link.ensures))

pub returns-clause-takes : goal.returns-clause-takes
returns-clause-takes g c =
    let o0 : OutsideTold = g.O.Outside.told c.args.outside.now in
    let o1 : OutsideTold = g.O.Outside.told c.ask_folder.new.outside in
    let o2 : OutsideTold = g.O.Outside.told c.ask_workers.new.outside in
    let o3 : OutsideTold = g.O.Outside.told c.ask_clock.new.outside in
    let o4 : OutsideTold = g.O.Outside.told c.ask_clock-2.new.outside in
    let o5 : OutsideTold = g.O.Outside.told c.ask_link.new.outside in
    let d0 : DoorTold = g.O.D.Door.told c.args.door.now in
    let d1 : DoorTold = g.O.D.Door.told c.ask_workers.new.door in
    takes-ok c.in_ok-link.link _ (((((ForFolder c.args.path.now ∷ []) ++ (worker_asks c.args.path.now 4)) ++ (ForClock ∷ [])) ++ (ForClock ∷ [])) ++ (ForLink ∷ [])) o0 o5 d0 d1
    (takes-then (Ok c.in_ok-link.link) c.in_ok-notifier.notifier ((((ForFolder c.args.path.now ∷ []) ++ (worker_asks c.args.path.now 4)) ++ (ForClock ∷ [])) ++ (ForClock ∷ [])) (ForLink ∷ []) o0 o4 o5 d0 d1 d1
    (takes-then (Ok c.in_ok-notifier.notifier) c.in_ok-scanner.scanner (((ForFolder c.args.path.now ∷ []) ++ (worker_asks c.args.path.now 4)) ++ (ForClock ∷ [])) (ForClock ∷ []) o0 o3 o4 d0 d1 d1
    (takes-then (Ok c.in_ok-scanner.scanner) c.in_ok-workers.workers ((ForFolder c.args.path.now ∷ []) ++ (worker_asks c.args.path.now 4)) (ForClock ∷ []) o0 o2 o3 d0 d1 d1
    (takes-then (Ok c.in_ok-workers.workers) c.in_ok-folder.folder (ForFolder c.args.path.now ∷ []) (worker_asks c.args.path.now 4) o0 o1 o2 d0 d0 d1
    (beside-door (Ok c.in_ok-folder.folder) (ForFolder c.args.path.now ∷ []) o0 o1 d0 c.in_ok-folder.ensures)
    c.in_ok-workers.ensures.takes)
    (beside-door (Ok c.in_ok-scanner.scanner) (ForClock ∷ []) o2 o3 d1 c.in_ok-scanner.ensures.asks))
    (beside-door (Ok c.in_ok-notifier.notifier) (ForClock ∷ []) o3 o4 d1 c.in_ok-notifier.ensures.asks))
    (beside-door (Ok c.in_ok-link.link) (ForLink ∷ []) o4 o5 d1 c.in_ok-link.ensures))

pub returns-clause-boot : goal.returns-clause-boot
returns-clause-boot g c = c.in_ok-workers.ensures.boot
