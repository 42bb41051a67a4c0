-- So far the front of the piece was taken, up to the place that the loop is at, and nothing was read.
use Rattle.std.proofs.Common.{length, ◌-◌, ◌≡◌, ◌≤◌, Some, ◌++◌, take}
use Rattle.cds_outside.specs.Outside.{Told}
use Rattle.cds_media.proofs.sending_over.send_whole.Given as goal

abbrev pub invariant-pieces : goal.invariant-pieces
invariant-pieces g l = record {
  within : l.at ≤ length l.piece;
  taken : Told (g.C.Sink.told l.initial.conn).holds (λ held. (g.C.Sink.told l.conn).holds ≡ Some (held ++ take l.at l.piece));
  never_falls : (g.C.Sink.told l.initial.conn).faults ≤ (g.C.Sink.told l.conn).faults;
  finished_stays : g.C.Conn.finished l.conn ≡ g.C.Conn.finished l.initial.conn;
  source_stays : g.C.Source.told l.conn ≡ g.C.Source.told l.initial.conn;
}

abbrev pub decreases-pieces : goal.decreases-pieces
decreases-pieces g l = length l.piece - l.at
