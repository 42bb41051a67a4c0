-- All that the jobs take is asked for, and then they are made.
use Rattle.std.proofs.Common.{[], drop}
use Rattle.cds_outside.specs.Told.{DoorTold, OutsideTold}
use Rattle.cds_serve.specs.Life.{life_asks}
use Rattle.cds_serve.proofs.Lives.{takes-exit, takes-no-memory, takes-ok}
use Rattle.cds_serve.proofs.life.crew_at.Goals as goal

pub returns-in_err-means-clause-takes : goal.returns-in_err-means-clause-takes
returns-in_err-means-clause-takes g c =
    let o0 : OutsideTold = g.O.Outside.told c.args.outside.now in
    let o1 : OutsideTold = g.O.Outside.told c.ask_means.new.outside in
    let d0 : DoorTold = g.O.D.Door.told c.args.door.now in
    let d1 : DoorTold = g.O.D.Door.told c.ask_means.new.door in
    let e = c.in_err-means.field-0.0 in
    takes-exit c.from_residual.result e (drop 2 (life_asks c.args.order.now.port c.args.order.now.folder.now)) [] o0 o1 d0 d1 c.from_residual.ensures.1 c.in_err-means.ensures.takes

pub returns-in_err-hire_crew-clause-takes : goal.returns-in_err-hire_crew-clause-takes
returns-in_err-hire_crew-clause-takes g c =
    let o0 : OutsideTold = g.O.Outside.told c.args.outside.now in
    let o1 : OutsideTold = g.O.Outside.told c.ask_means.new.outside in
    let d0 : DoorTold = g.O.D.Door.told c.args.door.now in
    let d1 : DoorTold = g.O.D.Door.told c.ask_means.new.door in
    takes-no-memory c.from_residual-in_err-hire_crew.result c.in_ok-means.means (drop 2 (life_asks c.args.order.now.port c.args.order.now.folder.now)) [] o0 o1 d0 d1
    c.from_residual-in_err-hire_crew.ensures.1 c.in_ok-means.ensures.takes

pub returns-clause-takes : goal.returns-clause-takes
returns-clause-takes g c =
    let o0 : OutsideTold = g.O.Outside.told c.args.outside.now in
    let o1 : OutsideTold = g.O.Outside.told c.ask_means.new.outside in
    let d0 : DoorTold = g.O.D.Door.told c.args.door.now in
    let d1 : DoorTold = g.O.D.Door.told c.ask_means.new.door in
    takes-ok c.in_ok-means.means _ (drop 2 (life_asks c.args.order.now.port c.args.order.now.folder.now)) o0 o1 d0 d1 c.in_ok-means.ensures.takes
