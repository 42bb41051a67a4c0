use Rattle.std.proofs.Common.{◌<◌, length, arith}
use Rattle.cds_catalog.specs.Steps.{touched, modified}
use Rattle.cds_store.proofs.Loops.{one_more_changed}
use Rattle.cds_store.proofs.catalog.modify_rows.Goals as goal

pub loop-placed-preserved : goal.loop-placed-preserved
loop-placed-preserved c =
    let within : c.loop-placed.placed-index < length c.deref_mut-placed-items.result.now = omega arith in
    rw c.in_ok-modify_placed.ensures
    (one_more_changed (touched c.args.path.now (modified c.args.number c.args.content.now)) c.deref_mut-placed-items.result.now
    c.loop-placed.placed-items c.loop-placed.placed-index c.placed-item.result within c.loop-placed.invariant c.placed-item.is)
