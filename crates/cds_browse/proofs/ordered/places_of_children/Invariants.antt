-- The places of the children so far.
use Rattle.std.proofs.Common.{take}
use Rattle.std.specs.Prelude.{filter}
use Rattle.cds_object.specs.Tree.{is_child_of}
use Rattle.cds_browse.specs.Places.{ArePlaces}
use Rattle.cds_browse.proofs.ordered.places_of_children.Given as goal

abbrev pub invariant-loop-place : goal.invariant-loop-place
invariant-loop-place g l = ArePlaces (g.V.View.rows l.view) l.places.items (filter (is_child_of l.id) (take l.place (g.V.View.rows l.view)))
