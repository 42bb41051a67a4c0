use Rattle.std.proofs.Common.{sym, subst, List}
use Rattle.std.specs.List.{AllByRecursion}
use Rattle.cds_object.specs.Tree.{IdsAscend}
use Rattle.cds_catalog.specs.Catalog.{PlacedRow}
use Rattle.cds_store.specs.Rows.{HasRoom, rows_of}
use Rattle.cds_store.proofs.ByIds.{ascend_modified, room_modified}
use Rattle.cds_store.proofs.by_ids.make_by_ids.Goals as goal

pub touch_by_id-requires-in-Modification-clause-ascending : goal.touch_by_id-requires-in-Modification-clause-ascending
touch_by_id-requires-in-Modification-clause-ascending c =
    subst (λ (l : List PlacedRow). IdsAscend (rows_of l)) (sym c.modify_by_id.ensures.rows)
    (ascend_modified _ _ _ _ c.requires.ascending)

pub touch_by_id-requires-in-Modification-clause-room : goal.touch_by_id-requires-in-Modification-clause-room
touch_by_id-requires-in-Modification-clause-room c =
    subst (AllByRecursion (λ (placed : PlacedRow). HasRoom placed.1)) (sym c.modify_by_id.ensures.rows)
    (room_modified _ _ _ _ c.requires.room)
