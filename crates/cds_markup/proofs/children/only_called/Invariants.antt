use Rattle.std.proofs.Common.{◌≡◌, drop, option_copied}
use Rattle.cds_markup.specs.Children.{called, only_of}
use Rattle.cds_markup.proofs.Only.{only_behind}
use Rattle.cds_markup.proofs.children.only_called.Given as goal

abbrev pub invariant-loop-node : goal.invariant-loop-node
invariant-loop-node l = only_behind (option_copied l.found) (called l.local (drop l.node-index l.nodes)) ≡ only_of (called l.local l.nodes)
