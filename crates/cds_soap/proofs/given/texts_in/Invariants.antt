use Rattle.std.proofs.Common.{◌≡◌, take}
use Rattle.cds_markup.specs.Children.{texts_in}
use Rattle.cds_soap.proofs.given.texts_in.Given as goal

abbrev pub invariant-loop-node : goal.invariant-loop-node
invariant-loop-node l = l.bytes ≡ texts_in (take l.node-index l.nodes)
