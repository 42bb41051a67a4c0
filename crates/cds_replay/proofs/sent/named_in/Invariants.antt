use Rattle.std.proofs.Common.{◌≡◌, nat_eq, filter, length, take}
use Rattle.cds_replay.specs.declared.sent.KeptNote.{KeptNote}
use Rattle.cds_replay.proofs.sent.named_in.Given as goal

-- how many of those so far
abbrev pub invariant-loop-note : goal.invariant-loop-note
invariant-loop-note l = l.count ≡ length (filter (λ (note : KeptNote). nat_eq note.to.sid.0 l.sid.0) (take l.note-index l.notes))
