-- So many bytes were passed over.
use Rattle.std.proofs.Common.{length, ◌+◌, ◌-◌, ◌≡◌, ◌≤◌, Some, drop}
use Rattle.cds_outside.specs.Outside.{Told}
use Rattle.cds_flac.proofs.input.pass_over.Given as goal

abbrev pub invariant-loop-passed : goal.invariant-loop-passed
invariant-loop-passed g l =
    (l.passed ≤ l.n)
    × Told (g.S.Source.told l.initial.source).left (λ bytes.
    (l.passed ≤ length bytes) × ((g.S.Source.told l.source).left ≡ Some (drop l.passed bytes)))
    × ((g.S.Source.told l.initial.source).faults ≤ (g.S.Source.told l.source).faults)
    × ((g.S.Source.told l.source).moved ≤ (g.S.Source.told l.initial.source).moved + l.passed)

abbrev pub decreases-loop-passed : goal.decreases-loop-passed
decreases-loop-passed g l = l.n - l.passed
