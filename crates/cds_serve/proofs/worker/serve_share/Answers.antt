-- One connection more was served.
use Rattle.std.proofs.Common.{[], refl, ◌∙◌, arith}
use Rattle.cds_turn.specs.Turn.{own_by, seat_told, start_of}
use Rattle.cds_serve.proofs.Courses.{turn-own, turn-passes}
use Rattle.cds_serve.proofs.Lives.{gave-next}
use Rattle.cds_serve.proofs.worker.serve_share.Goals as goal

pub connections-init : goal.connections-init
connections-init g c = record { seat = c.requires; passes = refl; own = ([], tt, refl); gave = refl; no_more = omega arith; never_falls = omega arith }

pub connections-preserved : goal.connections-preserved
connections-preserved g c =
    let so = c.connections.invariant in
    let one = c.serve_one.ensures.served in
    let old = seat_told c.args.turn.now c.connections.seat in
    let new = seat_told c.args.turn.now c.serve_one.new.seat in
    let start = start_of c.args.turn.now c.connections.seat in
    record {
      seat = c.serve_one.ensures.seat;
      passes = turn-passes start _ one.course old new one.turn ∙ so.passes;
      own = turn-own start _ one.course old new (own_by c.args.seat.now) one.turn so.own;
      gave = gave-next _ _ _ c.connections.served so.gave c.in-Ok.ensures.connections;
      no_more = omega (arith, c.connections-test.true);
      never_falls = omega (arith, so.never_falls, c.in-Ok.ensures.never_falls);
    }
