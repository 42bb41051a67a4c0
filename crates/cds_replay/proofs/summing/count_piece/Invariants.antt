-- So far the lines of a front of the piece were counted, and the rest is still to be taken.
use Rattle.std.proofs.Common.{◌≡◌, ℕ, ◌+◌, List, ◌++◌, length}
use Rattle.cds_replay.specs.Script.{left_in, Sound}
use Rattle.cds_replay.specs.Summing.{Counting, straight}
use Rattle.cds_replay.proofs.summing.count_piece.Given as goal

abbrev pub invariant-loop-line : goal.invariant-loop-line
invariant-loop-line l =
    Sound straight l.script
    × (left_in l.script + length l.piece ≡ left_in l.initial.script + length l.rest)
    × ((front : List ℕ) × (l.piece ≡ front ++ l.rest)
    × ((before : List ℕ) → Counting l.initial.script l.initial.tally before → Counting l.script l.tally (before ++ front)))

abbrev pub decreases-loop-line : goal.decreases-loop-line
decreases-loop-line l = length l.rest
