-- So far the lines of a front of the part were counted.
use Rattle.std.proofs.Common.{◌≡◌, ℕ, List, ◌++◌, length}
use Rattle.cds_summary.specs.Tally.{IsTally}
use Rattle.cds_summary.proofs.tally.Tally.feed.Given as goal

abbrev pub invariant-loop-line : goal.invariant-loop-line
invariant-loop-line l =
    (front : List ℕ) × (l.part ≡ front ++ l.rest) × ((report : List ℕ) → IsTally l.initial.self report → IsTally l.self (report ++ front))

abbrev pub decreases-loop-line : goal.decreases-loop-line
decreases-loop-line l = length l.rest
