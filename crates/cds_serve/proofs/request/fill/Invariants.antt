-- So far pieces came of which each wanted more.
use Rattle.std.proofs.Common.{◌≡◌, ◌≤◌, ℕ, List}
use Rattle.cds_serve.specs.Requested.{ComesTo}
use Rattle.cds_serve.proofs.request.fill.Given as goal

abbrev pub invariant-pieces : goal.invariant-pieces
invariant-pieces g l = record {
  comes : (bytes : List ℕ) → ComesTo bytes (g.C.Source.told l.initial.conn).left l.initial.reader → ComesTo bytes (g.C.Source.told l.conn).left l.reader;
  never_falls : (g.C.Source.told l.initial.conn).faults ≤ (g.C.Source.told l.conn).faults;
  sink_stays : g.C.Sink.told l.conn ≡ g.C.Sink.told l.initial.conn;
}
