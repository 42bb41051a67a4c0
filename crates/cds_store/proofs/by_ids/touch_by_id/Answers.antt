use Rattle.std.proofs.Common.{◌∙◌, ap, subst, List}
use Rattle.std.proofs.Math.ListN.{set}
use Rattle.cds_catalog.specs.Catalog.{PlacedRow}
use Rattle.cds_store.specs.Rows.{child_event}
use Rattle.cds_store.specs.Found.{HasNone, IsPlaceOf}
use Rattle.cds_store.proofs.ByIds.{touched_here, untouched}
use Rattle.cds_store.proofs.by_ids.touch_by_id.Goals as goal

pub returns-in-Some-clause-rows : goal.returns-in-Some-clause-rows
returns-in-Some-clause-rows c =
    ap (λ (p : PlacedRow). set c.args.rows.now.items c.in-Some.at p) c.touch_here.ensures
    ∙ touched_here c.args.id c.in-Some.at (child_event c.args.event c.args.number) c.args.rows.now.items c.index_mut.result.now
    (subst (λ (l : List PlacedRow). IsPlaceOf c.args.id l c.in-Some.at) c.as_slice.ensures.value c.in-Some.ensures) c.index_mut.ensures.value

pub returns-in_default-clause-rows : goal.returns-in_default-clause-rows
returns-in_default-clause-rows c =
    untouched c.args.id (child_event c.args.event c.args.number) c.args.rows.now.items (subst (HasNone c.args.id) c.as_slice.ensures.value c.in_default.ensures)
