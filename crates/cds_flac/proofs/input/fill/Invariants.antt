-- The front of `into` has the bytes so far.
use Rattle.std.proofs.Common.{length, ◌+◌, ◌-◌, ◌≡◌, ◌≤◌, Some, take, drop}
use Rattle.cds_outside.specs.Outside.{Told}
use Rattle.cds_flac.proofs.input.fill.Given as goal

abbrev pub invariant-loop-got : goal.invariant-loop-got
invariant-loop-got g l =
    (l.got ≤ length l.into)
    × Told (g.S.Source.told l.initial.source).left (λ bytes.
    (l.got ≤ length bytes)
    × (take l.got l.into ≡ take l.got bytes)
    × ((g.S.Source.told l.source).left ≡ Some (drop l.got bytes)))
    × ((g.S.Source.told l.initial.source).faults ≤ (g.S.Source.told l.source).faults)
    × ((g.S.Source.told l.source).moved ≤ (g.S.Source.told l.initial.source).moved + l.got)

abbrev pub decreases-loop-got : goal.decreases-loop-got
decreases-loop-got g l = length l.initial.into - l.got
