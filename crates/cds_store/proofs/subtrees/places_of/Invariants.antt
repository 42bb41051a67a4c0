use Rattle.std.proofs.Common.{◌≡◌, ℕ, List, take}
use Rattle.std.specs.BTreeSet.{contains}
use Rattle.cds_object.specs.Path.{path_cmp, same_path}
use Rattle.cds_changes.specs.Subtrees.{some_of}
use Rattle.cds_store.specs.SubtreeIndex.{is_kind}
use Rattle.cds_store.proofs.subtrees.places_of.Given as goal

abbrev pub invariant-loop-change : goal.invariant-loop-change
invariant-loop-change l = (path : List (List ℕ)) →
    contains path_cmp l.places path ≡ some_of (is_kind l.kind) (same_path path) (take l.change-index l.changes)
