-- The rows so far, and what the elements that are left say, are what all say.
use Rattle.std.proofs.Common.{◌≡◌, ◌≤◌, drop}
use Rattle.cds_markup.specs.Children.{elements_in}
use Rattle.cds_didl.specs.Didl.{rows_from}
use Rattle.cds_didl.proofs.OneByOne.{behind}
use Rattle.cds_didl.proofs.rows.rows_in.Given as goal

abbrev pub invariant-loop-node : goal.invariant-loop-node
invariant-loop-node l =
    (behind l.rows (rows_from l.number (elements_in (drop l.node-index l.nodes))) ≡ rows_from 0 (elements_in l.nodes)) × (l.number ≤ l.node-index)
