use Rattle.std.proofs.Common.{ap, ◌∙◌}
use Rattle.std.specs.BTreeMap.{get}
use Rattle.cds_object.specs.Path.{path_cmp}
use Rattle.cds_catalog.specs.Catalog.{PlacedRow}
use Rattle.cds_store.proofs.ByIds.{row_put}
use Rattle.cds_store.proofs.resolving.put_id.Goals as goal

pub returns : goal.returns
returns c =
    row_put (get path_cmp c.args.places.now) (get path_cmp c.insert.new.self) c.in_ok-path.path c.args.placed.now c.id.result
    (c.in_ok-path.ensures ∙ ap (λ (p : PlacedRow). p.0) c.placed.view_is) c.id.ensures c.in_ok-insert.ensures.updates.0
