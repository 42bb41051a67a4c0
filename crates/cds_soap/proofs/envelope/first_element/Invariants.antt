-- The same elements are left among the rest.
use Rattle.std.proofs.Common.{◌≡◌, length}
use Rattle.cds_markup.specs.Children.{elements_in}
use Rattle.cds_soap.proofs.envelope.first_element.Given as goal

abbrev pub invariant-loop-node : goal.invariant-loop-node
invariant-loop-node l = elements_in l.rest ≡ elements_in l.nodes

abbrev pub decreases-loop-node : goal.decreases-loop-node
decreases-loop-node l = length l.rest
