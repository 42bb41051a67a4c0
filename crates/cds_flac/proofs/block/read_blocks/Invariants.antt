-- The definition's answer for what is left is that for all. More blocks may come than the limit lets in.
use Rattle.std.proofs.Common.{◌≡◌, ℕ, ◌-◌, ◌+◌, ◌<◌, ◌≤◌, false, Some, List}
use Rattle.cds_outside.specs.Outside.{Told}
use Rattle.cds_flac.specs.Reading.{blocks_from, further_blocks}
use Rattle.cds_flac.proofs.block.read_blocks.Given as goal

abbrev pub invariant-loop-found : goal.invariant-loop-found
invariant-loop-found g l =
    (l.place ≤ 67108868)
    × (42 ≤ l.place)
    × ((g.S.Source.told l.source).moved ≤ (g.S.Source.told l.initial.source).moved + (l.place - 42))
    × Told (g.S.Source.told l.initial.source).left (λ bytes.
    (fewer : ℕ) × (rest : List ℕ)
    × ((g.S.Source.told l.source).left ≡ Some rest)
    × (67108868 < fewer + l.place)
    × (further_blocks false 42 bytes ≡ blocks_from fewer l.found l.place rest))
    × ((g.S.Source.told l.initial.source).faults ≤ (g.S.Source.told l.source).faults)

abbrev pub decreases-loop-found : goal.decreases-loop-found
decreases-loop-found g l = 67108868 - l.place
