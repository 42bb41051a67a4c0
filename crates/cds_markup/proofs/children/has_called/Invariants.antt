use Rattle.std.proofs.Common.{◌≡◌, drop}
use Rattle.cds_markup.specs.Children.{called, is_any}
use Rattle.cds_markup.proofs.children.has_called.Given as goal

abbrev pub invariant-loop-node : goal.invariant-loop-node
invariant-loop-node l = is_any (called l.local (drop l.node-index l.nodes)) ≡ is_any (called l.local l.nodes)
