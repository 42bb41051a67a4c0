use Rattle.std.proofs.Common.{◌≡◌, take, string_bytes}
use Rattle.cds_markup.specs.Children.{texts_in}
use Rattle.cds_markup.proofs.children.texts_in.Given as goal

abbrev pub invariant-loop-node : goal.invariant-loop-node
invariant-loop-node l = string_bytes l.text ≡ texts_in (take l.node-index l.nodes)
