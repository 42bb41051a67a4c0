use Rattle.std.proofs.Common.{◌≡◌, ℕ, drop, nat_cmp}
use Rattle.std.specs.BTreeSet.{contains}
use Rattle.cds_changes.specs.EventsWithParents.{was_deleted_after, was_deleted_in}
use Rattle.cds_store.proofs.containers.deleted_within.Given as goal

abbrev pub invariant-loop-item : goal.invariant-loop-item
invariant-loop-item l = (id : ℕ) →
    was_deleted_after l.span.from l.span.to id (contains nat_cmp l.deleted id) (drop l.item-index l.kept) ≡ was_deleted_in l.span.from l.span.to id l.kept
