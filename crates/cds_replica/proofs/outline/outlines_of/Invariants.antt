use Rattle.std.proofs.Common.{◌≡◌, take}
use Rattle.cds_replica.specs.Outlines.{outlines_of}
use Rattle.cds_replica.proofs.outline.outlines_of.Given as goal

abbrev pub invariant-loop-row : goal.invariant-loop-row
invariant-loop-row l = l.outlines.items ≡ outlines_of (take l.row-index l.rows)
