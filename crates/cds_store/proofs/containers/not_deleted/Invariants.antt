use Rattle.std.proofs.Common.{◌≡◌, ◌++◌, filter, not, nat_cmp}
use Rattle.std.specs.BTreeSet.{contains}
use Rattle.cds_store.proofs.containers.not_deleted.Given as goal

abbrev pub invariant-loop-id : goal.invariant-loop-id
invariant-loop-id l =
    l.containers.items ++ filter (λ entry. not (contains nat_cmp l.deleted entry.0)) l.id-iterator
    ≡ filter (λ entry. not (contains nat_cmp l.deleted entry.0)) l.touched.entries
