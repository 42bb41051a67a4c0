use Rattle.std.proofs.Common.{◌≡◌, true, length}
use Rattle.std.specs.BTreeSet.{contains}
use Rattle.cds_object.specs.Path.{path_cmp, parent_of}
use Rattle.cds_changes.specs.Subtrees.{is_over}
use Rattle.cds_store.proofs.subtrees.outermost.Given as goal

abbrev pub invariant-loop-alloc : goal.invariant-loop-alloc
invariant-loop-alloc l = record {
  over : is_over l.top l.path ≡ true;
  member : contains path_cmp l.places l.path ≡ true → contains path_cmp l.places l.top ≡ true;
  parent : l.parent ≡ parent_of l.top;
}

abbrev pub decreases-loop-alloc : goal.decreases-loop-alloc
decreases-loop-alloc l = length l.parent
