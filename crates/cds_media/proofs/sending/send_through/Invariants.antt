-- So far the first `at` bytes were moved.
use Rattle.std.proofs.Common.{◌≡◌, ◌+◌, ◌-◌, ◌≤◌, Some, ◌++◌, length, take, drop}
use Rattle.cds_outside.specs.Outside.{Told, raised}
use Rattle.cds_media.proofs.sending.send_through.Given as goal

abbrev pub invariant-pieces : goal.invariant-pieces
invariant-pieces g l = record {
  within : l.at ≤ l.count;
  left : Told (g.S.Source.told l.initial.source).left (λ bytes. (l.at ≤ length bytes) × ((g.S.Source.told l.source).left ≡ Some (drop l.at bytes)));
  taken : Told (g.S.Source.told l.initial.source).left (λ bytes. Told (g.K.Sink.told l.initial.sink).holds (λ held. (g.K.Sink.told l.sink).holds ≡ Some (held ++ take l.at bytes)));
  took : (g.S.Source.told l.source).moved ≤ (g.S.Source.told l.initial.source).moved + l.at;
  moved : raised (g.S.Source.told l.source).moved 0 ≡ raised (g.S.Source.told l.initial.source).moved l.at;
  read_faults : (g.S.Source.told l.initial.source).faults ≤ (g.S.Source.told l.source).faults;
  write_faults : (g.K.Sink.told l.initial.sink).faults ≤ (g.K.Sink.told l.sink).faults;
}

abbrev pub decreases-pieces : goal.decreases-pieces
decreases-pieces g l = l.count - l.at
