use Rattle.std.proofs.Common.{◌≡◌, ◌++◌, map, take, drop}
use Rattle.cds_replica.specs.CopySteps.{counts, counted_row}
use Rattle.cds_replica.proofs.copy_rows.count_children.Given as goal

abbrev pub invariant-loop-row : goal.invariant-loop-row
invariant-loop-row l =
    l.row-items ≡ map (counted_row (counts l.change l.number) l.parent) (take l.row-index l.initial.row-items) ++ drop l.row-index l.initial.row-items
