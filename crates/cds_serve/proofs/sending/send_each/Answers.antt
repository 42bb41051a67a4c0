-- Each exchange gives the next note, or none for want of memory.
use Rattle.std.proofs.Common.{take, map, arith}
use Rattle.cds_serve.specs.Sent.{note_request}
use Rattle.cds_serve.proofs.Sends.{gives-front, gives-next, gives-no-more, on-err}
use Rattle.cds_serve.proofs.sending.send_each.Goals as goal

pub returns-in_err-send_note-clause-front : goal.returns-in_err-send_note-clause-front
returns-in_err-send_note-clause-front g c =
    on-err c.from_residual.result
    (gives-front (note_request c.args.body.now) c.args.to.now _ c.notes.address-index _ c.notes-test.true
    (gives-no-more (map (note_request c.args.body.now) (take c.notes.address-index c.args.to.now)) _ _ _ c.notes.invariant.given c.in_err-send_note.ensures.given))

pub notes-preserved : goal.notes-preserved
notes-preserved g c = record {
  given =
      gives-next (note_request c.args.body.now) c.args.to.now _ c.notes.address-index c.address-item.result _ _ c.notes-test.true c.address-item.is
      c.notes.invariant.given c.in_ok-send_note.ensures.given;
  never_falls = omega (arith, c.in_ok-send_note.ensures.never_falls, c.notes.invariant.never_falls);
}
