use Rattle.std.proofs.Common.{◌≡◌, drop, option_copied}
use Rattle.cds_markup.specs.Children.{named, only_of}
use Rattle.cds_markup.proofs.Only.{only_behind}
use Rattle.cds_markup.proofs.children.only_named.Given as goal

abbrev pub invariant-loop-node : goal.invariant-loop-node
invariant-loop-node l = only_behind (option_copied l.found) (named l.space l.local (drop l.node-index l.nodes)) ≡ only_of (named l.space l.local l.nodes)
