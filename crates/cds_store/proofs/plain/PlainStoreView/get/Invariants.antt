use Rattle.std.proofs.Common.{◌≡◌, drop}
use Rattle.cds_object.specs.Tree.{row_of}
use Rattle.cds_store.specs.Rows.{rows_of}
use Rattle.cds_store.proofs.plain.PlainStoreView.get.Given as goal

abbrev pub invariant-loop-placed : goal.invariant-loop-placed
invariant-loop-placed l = row_of l.id (rows_of (drop l.placed-index l.placed-items)) ≡ row_of l.id (rows_of l.placed-items)
