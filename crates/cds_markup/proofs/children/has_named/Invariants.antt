use Rattle.std.proofs.Common.{◌≡◌, drop}
use Rattle.cds_markup.specs.Children.{named, is_any}
use Rattle.cds_markup.proofs.children.has_named.Given as goal

abbrev pub invariant-loop-node : goal.invariant-loop-node
invariant-loop-node l = is_any (named l.space l.local (drop l.node-index l.nodes)) ≡ is_any (named l.space l.local l.nodes)
