use Rattle.std.proofs.Common.{sym, subst, not}
use Rattle.std.specs.List.{AllByRecursion}
use Rattle.cds_object.specs.Path.{same_path}
use Rattle.cds_catalog.specs.Catalog.{PlacedRow}
use Rattle.cds_catalog.specs.Steps.{Standing}
use Rattle.cds_catalog.proofs.StepsFind.{each-filter}
use Rattle.cds_store.specs.Rows.{HasRoom}
use Rattle.cds_store.proofs.catalog.Catalog.delete.Goals as goal

pub touch_parent-requires : goal.touch_parent-requires
touch_parent-requires c =
    let room = subst (λ (s : Standing). AllByRecursion (λ (placed : PlacedRow). HasRoom placed.1) s.rows) (sym c.self.view_is) c.requires.room in
    rw c.remove_row.ensures
    (each-filter (λ (placed : PlacedRow). HasRoom placed.1) (λ (placed : PlacedRow). not (same_path c.args.path placed.0)) c.self.inside.rows.items room)
