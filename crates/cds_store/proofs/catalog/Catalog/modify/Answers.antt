use Rattle.std.proofs.Common.{◌+◌, sym, subst}
use Rattle.std.specs.List.{AllByRecursion}
use Rattle.cds_catalog.specs.Catalog.{PlacedRow}
use Rattle.cds_catalog.specs.Steps.{Standing}
use Rattle.cds_store.specs.Rows.{HasRoom}
use Rattle.cds_store.proofs.Making.{room_when_modified}
use Rattle.cds_store.proofs.catalog.Catalog.modify.Goals as goal

pub touch_parent-requires : goal.touch_parent-requires
touch_parent-requires c =
    let room = subst (λ (s : Standing). AllByRecursion (λ (placed : PlacedRow). HasRoom placed.1) s.rows) (sym c.self.view_is) c.requires.room in
    rw c.in_ok-modify_rows.ensures
    (room_when_modified c.args.path.now (c.self.inside.number + 1) c.args.content.now c.self.inside.rows.items room)
