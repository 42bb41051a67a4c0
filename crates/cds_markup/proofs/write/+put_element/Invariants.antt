use Rattle.std.proofs.Common.{◌≡◌, ◌++◌, drop, string_bytes}
use Rattle.cds_markup.proofs.Terms.{written_inside, meanings_of}
use Rattle.cds_markup.specs.Weight.{weight_one}
use Rattle.cds_markup.proofs.write.+put_element.Given as goal

-- what is written so far and what is left are all
abbrev pub invariant-loop-node : goal.invariant-loop-node
invariant-loop-node l = string_bytes l.out ++ written_inside l.space (meanings_of (drop l.node-index l.nodes)) ≡ string_bytes l.initial.out ++ written_inside l.space (meanings_of l.nodes)

-- less stands in a child
abbrev pub decreases-put_element : goal.decreases-put_element
decreases-put_element l = weight_one l.element.now
