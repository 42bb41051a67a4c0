use Rattle.std.proofs.Common.{◌≡◌, ◌++◌, reverse, vec_len}
use Rattle.cds_catalog.specs.History.{is_addition, is_deletion}
use Rattle.cds_store.specs.ChangeEvents.{changes_in}
use Rattle.cds_store.specs.SubtreeIndex.{Indexes, AreMarked}
use Rattle.cds_store.proofs.subtrees.mark_all.Given as goal

abbrev pub invariant-loop-change : goal.invariant-loop-change
invariant-loop-change l = record {
  parted : reverse l.fn.changes.items ≡ changes_in l.plan.items ++ reverse l.left.items;
  gone : Indexes is_deletion (reverse l.fn.changes.items) (changes_in l.plan.items) l.gone;
  come : Indexes is_addition (reverse l.fn.changes.items) (changes_in l.plan.items) l.come;
  marked : AreMarked (reverse l.fn.changes.items) l.plan.items (reverse l.left.items);
}

abbrev pub decreases-loop-change : goal.decreases-loop-change
decreases-loop-change l = vec_len l.left
