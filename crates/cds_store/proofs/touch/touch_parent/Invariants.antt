use Rattle.std.proofs.Common.{◌≡◌, ◌++◌, map, take, drop}
use Rattle.cds_catalog.specs.Steps.{touched}
use Rattle.cds_store.specs.Rows.{child_event}
use Rattle.cds_store.proofs.touch.touch_parent.Given as goal

abbrev pub invariant-loop-placed : goal.invariant-loop-placed
invariant-loop-placed l =
    l.placed-items ≡ map (touched l.parent (child_event l.event l.number)) (take l.placed-index l.initial.placed-items) ++ drop l.placed-index l.initial.placed-items
