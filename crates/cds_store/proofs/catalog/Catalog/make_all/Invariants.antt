use Rattle.std.proofs.Common.{◌≡◌, ◌++◌, reverse}
use Rattle.std.specs.Vec.Iter.{into_iter_items}
use Rattle.cds_catalog.specs.Steps.{stepped}
use Rattle.cds_store.specs.ChangeEvents.{changes_in, all_events_by}
use Rattle.cds_store.proofs.catalog.Catalog.make_all.Given as goal

abbrev pub invariant-loop-marked_change : goal.invariant-loop-marked_change
invariant-loop-marked_change l = record {
  parted : l.fn.plan.items ≡ l.yielded ++ into_iter_items l.marked_change-iterator;
  made : l.self ≡ stepped l.initial.self (changes_in (reverse l.yielded));
  told : l.told.items ≡ all_events_by l.initial.self (reverse l.yielded);
}
