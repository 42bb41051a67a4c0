use Rattle.std.proofs.Common.{◌≤◌, length, drop}
use Rattle.cds_markup.specs.Prefixes.{Indexes}
use Rattle.cds_markup.proofs.prefixes.index_of.Given as goal

abbrev pub invariant-loop-at : goal.invariant-loop-at
invariant-loop-at l = record {
  within : l.at ≤ length l.listed;
  indexed : Indexes l.listed (drop l.at l.listed) l.index;
}

abbrev pub decreases-loop-at : goal.decreases-loop-at
decreases-loop-at l = l.at
