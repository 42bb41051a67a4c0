use Rattle.std.proofs.Common.{◌<◌, length, arith}
use Rattle.cds_catalog.specs.Steps.{touched}
use Rattle.cds_store.specs.Rows.{child_event}
use Rattle.cds_store.proofs.Loops.{one_more_changed}
use Rattle.cds_store.proofs.touch.touch_parent.Goals as goal

pub loop-placed-preserved : goal.loop-placed-preserved
loop-placed-preserved c =
    let within : c.loop-placed.placed-index < length c.deref_mut-placed-items.result.now = omega arith in
    rw c.touch_placed.ensures
    (one_more_changed (touched c.args.parent.now (child_event c.args.event c.args.number)) c.deref_mut-placed-items.result.now
    c.loop-placed.placed-items c.loop-placed.placed-index c.placed-item.result within c.loop-placed.invariant c.placed-item.is)
