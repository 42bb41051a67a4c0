use Rattle.std.proofs.Common.{◌≤◌, length, drop}
use Rattle.std.specs.BTreeMap.{get}
use Rattle.cds_object.specs.Path.{path_cmp}
use Rattle.cds_store.specs.Found.{KnowsPlaces}
use Rattle.cds_store.proofs.resolving.places_in.Given as goal

abbrev pub invariant-loop-at : goal.invariant-loop-at
invariant-loop-at l = record {
  within : l.at ≤ length l.rows;
  knows : KnowsPlaces (get path_cmp l.places) (drop l.at l.rows);
}

abbrev pub decreases-loop-at : goal.decreases-loop-at
decreases-loop-at l = l.at
