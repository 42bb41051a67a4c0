-- So far the front of the piece was taken, up to the place that the loop is at.
use Rattle.std.proofs.Common.{length, ◌-◌, ◌≡◌, ◌≤◌, Some, ◌++◌, take}
use Rattle.cds_outside.specs.Outside.{Told}
use Rattle.cds_outside.proofs.stream.write_all.Given as goal

abbrev pub invariant-loop-at : goal.invariant-loop-at
invariant-loop-at g l =
    (l.at ≤ length l.piece)
    × Told (g.K.Sink.told l.initial.sink).holds (λ bytes. (g.K.Sink.told l.sink).holds ≡ Some (bytes ++ take l.at l.piece))
    × ((g.K.Sink.told l.initial.sink).faults ≤ (g.K.Sink.told l.sink).faults)

abbrev pub decreases-loop-at : goal.decreases-loop-at
decreases-loop-at g l = length l.piece - l.at
