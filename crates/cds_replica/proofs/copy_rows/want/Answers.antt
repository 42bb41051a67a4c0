use Rattle.std.proofs.Common.{◌<◌, length, arith}
use Rattle.cds_replica.specs.CopySteps.{wanted_row}
use Rattle.cds_replica.proofs.KeptLoops.{one_more_changed}
use Rattle.cds_replica.proofs.copy_rows.want.Goals as goal

pub loop-row-preserved : goal.loop-row-preserved
loop-row-preserved c =
    let within : c.loop-row.row-index < length c.deref_mut-row-items.result.now = omega arith in
    rw c.want.ensures
    (one_more_changed (wanted_row c.args.id c.args.number) c.deref_mut-row-items.result.now
    c.loop-row.row-items c.loop-row.row-index c.row-item.result within c.loop-row.invariant c.row-item.is)
