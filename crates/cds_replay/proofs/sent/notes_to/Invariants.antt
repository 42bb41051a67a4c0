use Rattle.std.proofs.Common.{◌≡◌, map, take}
use Rattle.cds_replay.specs.Sending.{kept_note}
use Rattle.cds_replay.proofs.sent.notes_to.Given as goal

-- the notes to the addresses so far
abbrev pub invariant-loop-address : goal.invariant-loop-address
invariant-loop-address l = l.notes.items ≡ map (kept_note l.number l.body) (take l.address-index l.to)
