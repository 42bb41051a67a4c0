-- So far the first `at` bytes were moved, and nothing was read of the connection.
use Rattle.std.proofs.Common.{◌≡◌, ◌+◌, ◌-◌, ◌≤◌, Some, ◌++◌, length, take, drop}
use Rattle.cds_outside.specs.Outside.{Told, raised}
use Rattle.cds_media.proofs.sending_over.send_through.Given as goal

abbrev pub invariant-pieces : goal.invariant-pieces
invariant-pieces g l = record {
  within : l.at ≤ l.count;
  left : Told (g.S.Source.told l.initial.source).left (λ bytes. (l.at ≤ length bytes) × ((g.S.Source.told l.source).left ≡ Some (drop l.at bytes)));
  taken : Told (g.S.Source.told l.initial.source).left (λ bytes. Told (g.C.Sink.told l.initial.conn).holds (λ held. (g.C.Sink.told l.conn).holds ≡ Some (held ++ take l.at bytes)));
  took : (g.S.Source.told l.source).moved ≤ (g.S.Source.told l.initial.source).moved + l.at;
  moved : raised (g.S.Source.told l.source).moved 0 ≡ raised (g.S.Source.told l.initial.source).moved l.at;
  read_faults : (g.S.Source.told l.initial.source).faults ≤ (g.S.Source.told l.source).faults;
  source_stays : g.C.Source.told l.conn ≡ g.C.Source.told l.initial.conn;
  finished_stays : g.C.Conn.finished l.conn ≡ g.C.Conn.finished l.initial.conn;
  write_faults : (g.C.Sink.told l.initial.conn).faults ≤ (g.C.Sink.told l.conn).faults;
}

abbrev pub decreases-pieces : goal.decreases-pieces
decreases-pieces g l = l.count - l.at
