use Rattle.std.proofs.Common.{sym, subst, List}
use Rattle.cds_object.specs.Tree.{IdsAscend}
use Rattle.cds_catalog.specs.Catalog.{PlacedRow}
use Rattle.cds_store.specs.Rows.{rows_of}
use Rattle.cds_store.proofs.Ascending.{rows_ascend}
use Rattle.cds_store.proofs.store.Store.file.Goals as goal

pub file_by_id-requires : goal.file_by_id-requires
file_by_id-requires c =
    subst (λ (l : List PlacedRow). IdsAscend (rows_of l)) (sym c.rows.ensures)
    (rows_ascend (record { standing = c.self.inside.catalog; forgotten = c.self.inside.forgotten; kept = c.self.inside.kept.items }) c.self.invariant.store)
