use Rattle.std.proofs.Common.{◌≡◌, drop}
use Rattle.cds_replica.specs.CopySteps.{parent_among}
use Rattle.cds_replica.proofs.copy_rows.parent_of.Given as goal

abbrev pub invariant-loop-row : goal.invariant-loop-row
invariant-loop-row l = parent_among l.id (drop l.row-index l.rows) ≡ parent_among l.id l.rows
