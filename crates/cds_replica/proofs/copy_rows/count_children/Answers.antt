use Rattle.std.proofs.Common.{◌<◌, length, arith}
use Rattle.cds_replica.specs.CopySteps.{counts, counted_row}
use Rattle.cds_replica.proofs.KeptLoops.{one_more_changed}
use Rattle.cds_replica.proofs.copy_rows.count_children.Goals as goal

pub loop-row-preserved : goal.loop-row-preserved
loop-row-preserved c =
    let within : c.loop-row.row-index < length c.deref_mut-row-items.result.now = omega arith in
    rw c.count.ensures
    (one_more_changed (counted_row (counts c.args.change c.args.number) c.args.parent) c.deref_mut-row-items.result.now
    c.loop-row.row-items c.loop-row.row-index c.row-item.result within c.loop-row.invariant c.row-item.is)
