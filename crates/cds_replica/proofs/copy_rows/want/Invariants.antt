use Rattle.std.proofs.Common.{◌≡◌, ◌++◌, map, take, drop}
use Rattle.cds_replica.specs.CopySteps.{wanted_row}
use Rattle.cds_replica.proofs.copy_rows.want.Given as goal

abbrev pub invariant-loop-row : goal.invariant-loop-row
invariant-loop-row l = l.row-items ≡ map (wanted_row l.id l.number) (take l.row-index l.initial.row-items) ++ drop l.row-index l.initial.row-items
