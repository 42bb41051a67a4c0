-- So far the bytes that the source gave were taken, and what they add to the report is counted.
use Rattle.std.proofs.Common.{◌≡◌, ℕ, ◌+◌, ◌-◌, ◌≤◌, List, Some}
use Rattle.cds_outside.specs.Outside.{raised}
use Rattle.cds_replay.specs.Script.{left_in, Sound}
use Rattle.cds_replay.specs.Summing.{Midway, straight}
use Rattle.cds_replay.proofs.summing.count_on.Given as goal

abbrev pub invariant-loop-script : goal.invariant-loop-script
invariant-loop-script g l =
    Sound straight l.script
    × (left_in l.script ≤ left_in l.initial.script)
    × ((n : ℕ) → raised (g.S.Source.told l.source).moved n ≡ raised (g.S.Source.told l.initial.source).moved ((left_in l.initial.script - left_in l.script) + n))
    × ((bytes : List ℕ) → (g.S.Source.told l.initial.source).left ≡ Some bytes → Midway l.script l.tally bytes (g.S.Source.told l.source).left)
    × ((g.S.Source.told l.initial.source).faults ≤ (g.S.Source.told l.source).faults)
    × ((g.S.Source.told l.source).moved ≤ (g.S.Source.told l.initial.source).moved + (left_in l.initial.script - left_in l.script))

abbrev pub decreases-loop-script : goal.decreases-loop-script
decreases-loop-script g l = left_in l.script
