use Rattle.std.proofs.Common.{◌≡◌, ◌+◌, ◌≤◌, ◌++◌, nat_cmp, vec_len, vec_capacity}
use Rattle.std.specs.BTreeSet.{contains}
use Rattle.std.specs.Vec.Iter.{into_iter_items}
use Rattle.cds_store.proofs.Committing.{IsMade}
use Rattle.cds_store.proofs.catalog.Catalog.commit.Given as goal

abbrev pub invariant-loop-next : goal.invariant-loop-next
invariant-loop-next l = record {
  parted : l.fn.scan.resolved.items ≡ l.yielded ++ into_iter_items l.next-iterator;
  made : IsMade l.fn.self (contains nat_cmp l.fn.scan.gone) l.yielded (record { number = l.self-inside.number; drawn = l.self-inside.drawn; rows = l.self-inside.rows.items });
  spare : vec_len l.self-inside.rows + l.fn.scan.drawn ≤ vec_capacity l.self-inside.rows + l.self-inside.drawn;
}
