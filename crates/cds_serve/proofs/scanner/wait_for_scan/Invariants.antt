-- So far each look left a seat of the turn, which has seen what it had seen before, and nothing more where it is the only seat.
use Rattle.std.proofs.Common.{◌≡◌}
use Rattle.cds_turn.specs.Line.{Extends}
use Rattle.cds_turn.specs.Turn.{IsSeatOf, own_by, passes_of, seats_of, seen_by}
use Rattle.cds_serve.proofs.scanner.wait_for_scan.Given as goal

abbrev pub invariant-looks : goal.invariant-looks
invariant-looks g l = record {
  seat : IsSeatOf l.turn l.seat;
  passes : passes_of l.seat ≡ passes_of l.initial.seat;
  begun : Extends (seen_by l.seat) (seen_by l.initial.seat);
  own : own_by l.seat ≡ own_by l.initial.seat;
  alone : passes_of l.initial.seat ≡ seats_of l.turn → seen_by l.seat ≡ seen_by l.initial.seat;
}
