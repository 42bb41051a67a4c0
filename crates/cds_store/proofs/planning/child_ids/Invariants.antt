use Rattle.std.proofs.Common.{◌≡◌, ◌++◌, map, drop}
use Rattle.cds_object.specs.Tree.{children_of}
use Rattle.cds_object.specs.Object.{ObjectRow}
use Rattle.cds_store.specs.Rows.{rows_of}
use Rattle.cds_store.proofs.planning.child_ids.Given as goal

abbrev pub invariant-loop-placed : goal.invariant-loop-placed
invariant-loop-placed l =
    l.ids.items ++ map (λ (r : ObjectRow). r.id) (children_of l.id (rows_of (drop l.placed-index l.rows)))
    ≡ map (λ (r : ObjectRow). r.id) (children_of l.id (rows_of l.rows))
