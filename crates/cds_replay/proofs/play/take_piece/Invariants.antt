-- So far the lines of a front of the piece were played, and the rest is still to be taken.
use Rattle.std.proofs.Common.{◌≡◌, ℕ, ◌+◌, ◌≤◌, List, ◌++◌, length}
use Rattle.cds_replay.specs.Script.{left_in, Sound, GoesOn}
use Rattle.cds_replay.specs.Replay.{Played}
use Rattle.cds_replay.proofs.play.take_piece.Given as goal

abbrev pub invariant-loop-line : goal.invariant-loop-line
invariant-loop-line g l =
    Sound (g.W.Wire.carried l.wire) l.script
    × (left_in l.script + length l.piece ≡ left_in l.initial.script + length l.rest)
    × ((front : List ℕ) × (l.piece ≡ front ++ l.rest)
    × ((before written : List ℕ) → GoesOn (g.W.Wire.carried l.wire) l.initial.script before written → Played (g.W.Wire.carried l.wire) before written front (g.K.Sink.told l.initial.sink).holds (g.K.Sink.told l.sink).holds l.script))
    × ((g.K.Sink.told l.initial.sink).faults ≤ (g.K.Sink.told l.sink).faults)

abbrev pub decreases-loop-line : goal.decreases-loop-line
decreases-loop-line g l = length l.rest
