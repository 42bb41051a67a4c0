-- What is left of both texts decides.
use Rattle.std.proofs.Common.{◌≡◌, ◌≤◌, length, drop}
use Rattle.cds_criteria.specs.Meaning.{text_order}
use Rattle.cds_criteria.proofs.folded.text_order.Given as goal

abbrev pub invariant-loop-at : goal.invariant-loop-at
invariant-loop-at l = record {
  left : text_order l.a l.b ≡ text_order (drop l.at l.a) (drop l.at l.b);
  within : l.at ≤ length l.b;
}
