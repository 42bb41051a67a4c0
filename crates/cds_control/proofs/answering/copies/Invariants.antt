-- The copies so far.
use Rattle.std.proofs.Common.{◌≡◌, take}
use Rattle.cds_control.specs.Answering.{rows_with}
use Rattle.cds_control.proofs.answering.copies.Given as goal

abbrev pub invariant-loop-id : goal.invariant-loop-id
invariant-loop-id g l = l.rows.items ≡ rows_with (take l.id-index l.ids) (g.V.View.rows l.view)
