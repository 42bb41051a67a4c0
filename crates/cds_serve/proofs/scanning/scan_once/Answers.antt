-- One scan from its parts.
use Rattle.std.proofs.Common.{refl}
use Rattle.cds_turn.specs.Turn.{seat_told, start_of}
use Rattle.cds_serve.specs.Scanned.{Across}
use Rattle.cds_serve.specs.Served.{CanBeClosed}
use Rattle.cds_serve.proofs.Scans.{taken, unscanned-exit}
use Rattle.cds_serve.proofs.scanning.scan_once.Goals as goal

pub returns-in_err-found-clause-scanned : goal.returns-in_err-found-clause-scanned
returns-in_err-found-clause-scanned g c =
    let old : Across = record {
      seat = seat_told c.args.turn.now c.args.seat.now;
      folder = g.F.Folder.told c.args.folder.now;
      clock = g.T.Clock.told c.args.clock.now;
    } in
    let new : Across = record {
      seat = seat_told c.args.turn.now c.args.seat.now;
      folder = g.F.Folder.told c.scanned.new.folder;
      clock = g.T.Clock.told c.args.clock.now;
    } in
    unscanned-exit (CanBeClosed g.V.Serving.told g.V.Serving.stands (start_of c.args.turn.now c.args.seat.now)) (start_of c.args.turn.now c.args.seat.now) c.args.last.now c.args.last.now old new c.from_residual.result c.in_err-found.field-0.0
    c.from_residual.ensures.1 c.in_err-found.ensures.refused refl refl refl

pub returns-clause-scanned : goal.returns-clause-scanned
returns-clause-scanned g c =
    let old : Across = record {
      seat = seat_told c.args.turn.now c.args.seat.now;
      folder = g.F.Folder.told c.args.folder.now;
      clock = g.T.Clock.told c.args.clock.now;
    } in
    let new : Across = record {
      seat = seat_told c.args.turn.now c.with.new.seat;
      folder = g.F.Folder.told c.scanned.new.folder;
      clock = g.T.Clock.told c.ask_moment-now.new.clock;
    } in
    let f = c.with.ensures.found in
    taken (CanBeClosed g.V.Serving.told g.V.Serving.stands (start_of c.args.turn.now c.args.seat.now)) (start_of c.args.turn.now c.args.seat.now) c.args.last.now c.ask_moment-now.new.last old new
    c.in_ok-found.found c.in_ok-found.ensures.given f.0 f.1 f.2 c.ask_moment-now.ensures.moment c.with.result c.scan_answer.result
    c.accepting.result.scan.now c.accepting.ensures c.in_ok-found.ensures.stands f.3 f.4 f.5 c.with.ensures.passes c.with.ensures.turns refl
    c.scan_answer.ensures.ok c.scan_answer.ensures.refused
