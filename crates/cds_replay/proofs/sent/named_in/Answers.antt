-- There are no more of them than notes so far.
use Rattle.std.proofs.Common.{nat_eq, arith}
use Rattle.cds_replay.specs.declared.sent.KeptNote.{KeptNote}
use Rattle.cds_replay.proofs.NotePlaces.{few-before}
use Rattle.cds_replay.proofs.sent.named_in.Goals as goal

pub overflow_add-count : goal.overflow_add-count
overflow_add-count c =
    let few = few-before (λ (note : KeptNote). nat_eq note.to.sid.0 c.args.sid.0) c.loop-note.note-index c.args.notes.now in
    let is = c.loop-note.invariant in
    let more = c.loop-note-test.true in omega (arith, few, is, more)
