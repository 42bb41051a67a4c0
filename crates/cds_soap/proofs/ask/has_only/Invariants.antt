use Rattle.std.proofs.Common.{◌≡◌, drop}
use Rattle.std.specs.List.{list_all}
use Rattle.cds_markup.specs.Children.{elements_in}
use Rattle.cds_soap.specs.Given.{is_argument}
use Rattle.cds_soap.proofs.ask.has_only.Given as goal

abbrev pub invariant-loop-node : goal.invariant-loop-node
invariant-loop-node l =
    list_all (λ child. is_argument l.name child) (elements_in (drop l.node-index l.nodes)) ≡ list_all (λ child. is_argument l.name child) (elements_in l.nodes)
