-- Each element among some nodes has less in it than they have.
use Rattle.std.specs.Prelude.{◌≤◌, max, List, [], ◌∷◌}
use Rattle.std.proofs.Common.{arith}
use denote.Param.Weighed.{most}
use Rattle.cds_markup.specs.declared.element.Node.{Node}
use Rattle.cds_markup.specs.declared.element.Node.TheVariants.{Text, Child}
use Rattle.cds_markup.specs.declared.element.Element.TheDeep.{deep-Node}
use Rattle.cds_markup.specs.Document.{End}
use Rattle.cds_markup.specs.Weight.{weight}
use Rattle.cds_markup.specs.Elements.{nodes_then}

pub most_le-weight : (nodes : List Node) → max (most deep-Node nodes) 0 ≤ weight (nodes_then nodes End)
most_le-weight [] = omega arith
most_le-weight (Text text ∷ nodes) = omega (arith, most_le-weight nodes)
most_le-weight (Child child ∷ nodes) = omega (arith, most_le-weight nodes)
