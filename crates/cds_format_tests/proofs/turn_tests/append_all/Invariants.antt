use Rattle.std.proofs.Common.{◌≡◌}
use Rattle.cds_turn.specs.Turn.{IsSeatOf, passes_of}
use Rattle.cds_format_tests.proofs.turn_tests.append_all.Given as goal

abbrev pub invariant-loop-i : goal.invariant-loop-i
invariant-loop-i g l = IsSeatOf l.turn l.seat × (passes_of l.seat ≡ passes_of l.fn.seat)
