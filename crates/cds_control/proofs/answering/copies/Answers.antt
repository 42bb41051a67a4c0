use Rattle.std.proofs.Common.{refl}
use Rattle.cds_control.proofs.PageRows.{next-copied}
use Rattle.cds_control.proofs.answering.copies.Goals as goal

pub loop-id-preserved : goal.loop-id-preserved
loop-id-preserved g c =
    next-copied (g.V.View.rows c.args.view.now) c.args.ids.now c.loop-id.id-index _ _ _ _
    c.loop-id-test.true refl c.loop-id.invariant c.in_ok-push_copy.ensures
