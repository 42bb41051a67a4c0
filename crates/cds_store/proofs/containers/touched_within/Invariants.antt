use Rattle.std.proofs.Common.{◌≡◌, ℕ, drop, nat_cmp}
use Rattle.std.specs.BTreeMap.{get}
use Rattle.cds_changes.specs.EventsWithParents.{last_touch_after, last_touch_in}
use Rattle.cds_store.proofs.containers.touched_within.Given as goal

abbrev pub invariant-loop-item : goal.invariant-loop-item
invariant-loop-item l = (id : ℕ) →
    last_touch_after l.span.from l.span.to id (get nat_cmp l.touched id) (drop l.item-index l.kept) ≡ last_touch_in l.span.from l.span.to id l.kept
