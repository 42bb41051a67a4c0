use Rattle.std.proofs.Common.{◌≤◌, ◌-◌, length, take, drop}
use Rattle.cds_store.proofs.RowsFound.{AllBelow, AllAbove}
use Rattle.cds_store.proofs.halving.place_of_id.Given as goal

abbrev pub invariant-loop-low : goal.invariant-loop-low
invariant-loop-low l = record {
  order : l.low ≤ l.high;
  within : l.high ≤ length l.rows;
  below : AllBelow l.id (take l.low l.rows);
  above : AllAbove l.id (drop l.high l.rows);
}

abbrev pub decreases-loop-low : goal.decreases-loop-low
decreases-loop-low l = l.high - l.low
