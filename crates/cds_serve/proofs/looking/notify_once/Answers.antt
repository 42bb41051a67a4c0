-- One look from its parts.
use Rattle.std.proofs.Common.{refl}
use Rattle.cds_turn.specs.Turn.{seat_told, start_of}
use Rattle.cds_serve.specs.Looked.{Beside}
use Rattle.cds_serve.proofs.Looks.{looks-full, looks-none-exit, looks-part}
use Rattle.cds_serve.proofs.looking.notify_once.Goals as goal

pub returns-in_err-send_notes-clause-looked : goal.returns-in_err-send_notes-clause-looked
returns-in_err-send_notes-clause-looked g c =
    let old : Beside = record {
      seat = seat_told c.args.turn.now c.args.seat.now;
      clock = g.T.Clock.told c.args.clock.now;
      link = g.L.Link.told c.args.link.now;
    } in
    let new : Beside = record {
      seat = seat_told c.args.turn.now c.with.new.seat;
      clock = g.T.Clock.told c.ask_moment-now.new.clock;
      link = g.L.Link.told c.send_notes.new.link;
    } in
    let f = c.with.ensures.found in
    looks-part (start_of c.args.turn.now c.args.seat.now) c.args.last.now c.ask_moment-now.new.last old new f.0 f.1 f.2 c.with.ensures.passes c.with.ensures.turns
    c.ask_moment-now.ensures.moment c.ask_moment-now.result c.with.result c.in_ok-look.look
    c.from_residual-in_err-send_notes.result c.in_err-send_notes.field-0.0 c.from_residual-in_err-send_notes.ensures.1 c.ask_moment-now.ensures.kept
    c.in_ok-look.was f.3 f.4 f.5 c.in_err-send_notes.ensures.front

pub returns-clause-looked : goal.returns-clause-looked
returns-clause-looked g c =
    let old : Beside = record {
      seat = seat_told c.args.turn.now c.args.seat.now;
      clock = g.T.Clock.told c.args.clock.now;
      link = g.L.Link.told c.args.link.now;
    } in
    let new : Beside = record {
      seat = seat_told c.args.turn.now c.with.new.seat;
      clock = g.T.Clock.told c.ask_moment-now.new.clock;
      link = g.L.Link.told c.send_notes.new.link;
    } in
    let f = c.with.ensures.found in
    looks-full (start_of c.args.turn.now c.args.seat.now) c.args.last.now c.ask_moment-now.new.last old new f.0 f.1 f.2 c.with.ensures.passes c.with.ensures.turns
    c.ask_moment-now.ensures.moment c.ask_moment-now.result c.with.result c.in_ok-look.look
    c.ask_moment-now.ensures.kept c.in_ok-look.was f.3 f.4 f.5 c.in_ok-send_notes.ensures.given

pub returns-in_err-look-clause-looked : goal.returns-in_err-look-clause-looked
returns-in_err-look-clause-looked g c =
    let old : Beside = record {
      seat = seat_told c.args.turn.now c.args.seat.now;
      clock = g.T.Clock.told c.args.clock.now;
      link = g.L.Link.told c.args.link.now;
    } in
    let new : Beside = record {
      seat = seat_told c.args.turn.now c.with.new.seat;
      clock = g.T.Clock.told c.ask_moment-now.new.clock;
      link = g.L.Link.told c.args.link.now;
    } in
    let f = c.with.ensures.found in
    looks-none-exit (start_of c.args.turn.now c.args.seat.now) c.args.last.now c.ask_moment-now.new.last old new f.0 f.1 f.2 c.with.ensures.passes c.with.ensures.turns
    c.ask_moment-now.ensures.moment c.ask_moment-now.result c.with.result c.in_err-look.field-0.0
    c.from_residual.result c.in_err-look.field-0.0 c.from_residual.ensures.1
    c.in_err-look.was f.4 f.5 refl
