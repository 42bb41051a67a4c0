-- The texts of the rows so far, and their ranges.
use Rattle.std.proofs.Common.{◌≡◌, ◌++◌, take, string_bytes}
use Rattle.std.specs.List.{AllByRecursion}
use Rattle.cds_didl.specs.Fragment.{fragments}
use Rattle.cds_didl.specs.ReadBack.{HasRanges}
use Rattle.cds_didl.proofs.write.put_rows.Given as goal

abbrev pub invariant-loop-row : goal.invariant-loop-row
invariant-loop-row l = record {
  text : string_bytes l.out ≡ string_bytes l.fn.out ++ fragments l.filter l.base (take l.row-index l.rows);
  ranged : AllByRecursion HasRanges (take l.row-index l.rows);
}
