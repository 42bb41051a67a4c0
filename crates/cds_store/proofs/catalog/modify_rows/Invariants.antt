use Rattle.std.proofs.Common.{◌≡◌, ◌++◌, map, take, drop}
use Rattle.cds_catalog.specs.Steps.{touched, modified}
use Rattle.cds_store.proofs.catalog.modify_rows.Given as goal

abbrev pub invariant-loop-placed : goal.invariant-loop-placed
invariant-loop-placed l =
    l.placed-items ≡ map (touched l.path (modified l.number l.content)) (take l.placed-index l.initial.placed-items) ++ drop l.placed-index l.initial.placed-items
