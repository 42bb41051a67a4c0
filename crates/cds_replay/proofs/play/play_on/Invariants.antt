-- So far the bytes that the source gave were taken, and what they add to the report is in the sink.
use Rattle.std.proofs.Common.{◌≡◌, ℕ, ◌+◌, ◌-◌, ◌≤◌, List, [], Some}
use Rattle.cds_outside.specs.Outside.{raised}
use Rattle.cds_replay.specs.Script.{left_in, Sound, GoesOn}
use Rattle.cds_replay.specs.Replay.{Under}
use Rattle.cds_replay.proofs.play.play_on.Given as goal

abbrev pub invariant-loop-script : goal.invariant-loop-script
invariant-loop-script g l =
    Sound (g.W.Wire.carried l.wire) l.script
    × (left_in l.script ≤ left_in l.initial.script)
    × ((n : ℕ) → raised (g.S.Source.told l.source).moved n ≡ raised (g.S.Source.told l.initial.source).moved ((left_in l.initial.script - left_in l.script) + n))
    × ((bytes : List ℕ) → GoesOn (g.W.Wire.carried l.wire) l.initial.script [] [] → (g.S.Source.told l.initial.source).left ≡ Some bytes →
    Under (g.W.Wire.carried l.wire) bytes (g.S.Source.told l.source).left (g.K.Sink.told l.initial.sink).holds (g.K.Sink.told l.sink).holds l.script)
    × ((g.S.Source.told l.initial.source).faults ≤ (g.S.Source.told l.source).faults)
    × ((g.K.Sink.told l.initial.sink).faults ≤ (g.K.Sink.told l.sink).faults)
    × ((g.S.Source.told l.source).moved ≤ (g.S.Source.told l.initial.source).moved + (left_in l.initial.script - left_in l.script))

abbrev pub decreases-loop-script : goal.decreases-loop-script
decreases-loop-script g l = left_in l.script
