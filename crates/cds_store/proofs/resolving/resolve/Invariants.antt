use Rattle.std.proofs.Common.{◌≡◌, ◌++◌, reverse}
use Rattle.std.specs.BTreeMap.{get}
use Rattle.std.specs.Vec.Iter.{into_iter_items}
use Rattle.cds_object.specs.Path.{path_cmp}
use Rattle.cds_catalog.specs.Steps.{stepped}
use Rattle.cds_store.specs.ChangeEvents.{changes_in}
use Rattle.cds_store.specs.Found.{KnowsPlaces}
use Rattle.cds_store.specs.Resolution.{IsResolutionOf}
use Rattle.cds_store.proofs.resolving.resolve.Given as goal

abbrev pub invariant-loop-marked : goal.invariant-loop-marked
invariant-loop-marked l = record {
  parted : l.fn.plan.items ≡ l.yielded ++ into_iter_items l.marked-iterator;
  follows : IsResolutionOf l.catalog (reverse l.yielded) l.so_far;
  knows : KnowsPlaces (get path_cmp l.places) (stepped l.catalog (changes_in (reverse l.yielded))).rows;
}
