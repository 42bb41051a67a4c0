-- The text so far is the front of the bytes.
use Rattle.std.proofs.Common.{length, ◌+◌, ◌-◌, ◌≡◌, ◌≤◌, Some, take, drop}
use Rattle.cds_outside.specs.Outside.{Told}
use Rattle.cds_flac.proofs.input.read_text.Given as goal

abbrev pub invariant-loop-piece : goal.invariant-loop-piece
invariant-loop-piece g l =
    (length l.text ≤ l.n)
    × Told (g.S.Source.told l.initial.source).left (λ bytes.
    (length l.text ≤ length bytes)
    × (l.text ≡ take (length l.text) bytes)
    × ((g.S.Source.told l.source).left ≡ Some (drop (length l.text) bytes)))
    × ((g.S.Source.told l.initial.source).faults ≤ (g.S.Source.told l.source).faults)
    × ((g.S.Source.told l.source).moved ≤ (g.S.Source.told l.initial.source).moved + length l.text)

abbrev pub decreases-loop-piece : goal.decreases-loop-piece
decreases-loop-piece g l = l.n - length l.text
