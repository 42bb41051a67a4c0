-- The places of the rows found so far.
use Rattle.std.proofs.Common.{◌≡◌, take}
use Rattle.std.specs.Prelude.{filter}
use Rattle.cds_browse.specs.Lineage.{AreKnown, IsLast, is_found}
use Rattle.cds_browse.specs.Places.{ArePlaces}
use Rattle.cds_browse.proofs.descendants.places_below.Given as goal

abbrev pub invariant-loop-place : goal.invariant-loop-place
invariant-loop-place g l = record {
  container : l.lineage.container ≡ l.container;
  known : AreKnown (g.V.View.rows l.view) l.lineage.container l.lineage.known.items;
  last : IsLast (g.V.View.rows l.view) l.lineage.container l.lineage.last;
  found : ArePlaces (g.V.View.rows l.view) l.places.items (filter (is_found l.criteria l.container (g.V.View.rows l.view)) (take l.place (g.V.View.rows l.view)));
}
