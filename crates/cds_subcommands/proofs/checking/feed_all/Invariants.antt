-- So far the reader was fed what the source gave.
use Rattle.std.proofs.Common.{◌≡◌, ℕ, ◌+◌, ◌-◌, ◌≤◌, List, Some}
use Rattle.cds_outside.specs.Outside.{raised}
use Rattle.cds_base.specs.declared.limits.TheConstants.{INPUT_LIMIT}
use Rattle.cds_subcommands.proofs.Feeding.{SoFar, Coming}
use Rattle.cds_subcommands.proofs.checking.feed_all.Given as goal

abbrev pub invariant-loop-count : goal.invariant-loop-count
invariant-loop-count g l =
    SoFar l.left l.reader
    × ((bytes : List ℕ) → (g.S.Source.told l.initial.source).left ≡ Some bytes → Coming l.reader (g.S.Source.told l.source).left bytes)
    × ((n : ℕ) → raised (g.S.Source.told l.source).moved n ≡ raised (g.S.Source.told l.initial.source).moved ((INPUT_LIMIT - l.left) + n))
    × ((g.S.Source.told l.initial.source).faults ≤ (g.S.Source.told l.source).faults)
    × ((g.S.Source.told l.source).moved ≤ (g.S.Source.told l.initial.source).moved + (INPUT_LIMIT - l.left))

abbrev pub decreases-loop-count : goal.decreases-loop-count
decreases-loop-count g l = l.left
