-- So far each look left a seat of the turn, which has seen what it had seen before, and besides that only ticks where it is the only seat.
use Rattle.std.proofs.Common.{◌≡◌}
use Rattle.std.specs.Arc.{arc_value}
use Rattle.cds_turn.specs.Line.{Extends}
use Rattle.cds_turn.specs.Turn.{IsSeatOf, own_by, passes_of, seats_of, seen_by}
use Rattle.cds_serve.specs.Jobs.{AddsTicks}
use Rattle.cds_serve.proofs.notifier.NotifierJob.run.Given as goal

abbrev pub invariant-looks : goal.invariant-looks
invariant-looks g l = record {
  seat : IsSeatOf (arc_value l.turn) l.seat;
  passes : passes_of l.seat ≡ passes_of l.initial.seat;
  begun : Extends (seen_by l.seat) (seen_by l.initial.seat);
  own : AddsTicks (own_by l.initial.seat) (own_by l.seat);
  alone : passes_of l.seat ≡ seats_of (arc_value l.turn) → AddsTicks (seen_by l.initial.seat) (seen_by l.seat);
}
