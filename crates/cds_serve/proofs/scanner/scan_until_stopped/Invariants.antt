-- So far each scan is counted, and stands in what the seat has seen where it was accepted.
use Rattle.std.proofs.Common.{◌≡◌}
use Rattle.cds_turn.specs.Turn.{IsSeatOf, own_by, passes_of, seats_of, seen_by, start_of}
use Rattle.cds_serve.specs.Jobs.{AddsScans, ScansSoFar}
use Rattle.cds_serve.proofs.scanner.scan_until_stopped.Given as goal

abbrev pub invariant-scans : goal.invariant-scans
invariant-scans g l = record {
  seat : IsSeatOf l.turn l.seat;
  passes : passes_of l.seat ≡ passes_of l.initial.seat;
  own : AddsScans l.counts.accepted (own_by l.initial.seat) (own_by l.seat);
  so_far : ScansSoFar (start_of l.turn l.seat) (passes_of l.seat) (seats_of l.turn)
      (g.F.Folder.told l.initial.folder)
      (g.F.Folder.told l.folder)
      (seen_by l.initial.seat) (seen_by l.seat) l.counts.accepted l.counts.refused;
}
