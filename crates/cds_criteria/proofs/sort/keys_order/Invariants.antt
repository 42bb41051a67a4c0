-- The keys that are left decide.
use Rattle.std.proofs.Common.{◌≡◌, drop}
use Rattle.cds_criteria.specs.Sorting.{row_order}
use Rattle.cds_criteria.proofs.sort.keys_order.Given as goal

abbrev pub invariant-loop-key : goal.invariant-loop-key
invariant-loop-key l = row_order l.keys l.a l.b ≡ row_order (drop l.key-index l.keys) l.a l.b
