use Rattle.std.proofs.Common.{◌∙◌, ◌||◌, ap, sym}
use Rattle.std.specs.BTreeSet.{BTreeSet, contains}
use Rattle.cds_object.specs.Path.{path_cmp, same_path}
use Rattle.cds_object.specs.declared.path.Path.{Path}
use Rattle.cds_store.specs.SubtreeIndex.{is_kind}
use Rattle.cds_store.proofs.Bad.{put_in}
use Rattle.cds_store.proofs.SubtreeIndex.{place-seen, other-seen}
use Rattle.cds_store.proofs.subtrees.places_of.Goals as goal
use Rattle.cds_store.proofs.subtrees.places_of.Goals.{then-is_of+in_ok-place+in_ok-insert, else-is_of}

pub loop-change-preserved : goal.loop-change-preserved
loop-change-preserved c = λ path. elim c.if-is_of.branch [
  | then-is_of+in_ok-place+in_ok-insert w ↦
      ap (λ (s : BTreeSet Path). contains path_cmp s path) w.places-is
      ∙ place-seen (is_kind c.args.kind) (same_path path) c.args.changes.now c.loop-change.change-index c.change-item.result
      (contains path_cmp c.loop-change.places path) (contains path_cmp w.insert.new.self path) c.loop-change-test.true c.change-item.is
      (sym c.is_of.ensures ∙ w.if-is_of.true) (c.loop-change.invariant path)
      (put_in w.in_ok-place.place w.place_of.result.now path (contains path_cmp c.loop-change.places path) (contains path_cmp w.insert.new.self path)
      w.in_ok-place.ensures (w.in_ok-insert.ensures.updates.0 path)
      ∙ ap (λ q. contains path_cmp c.loop-change.places path || same_path path q) w.place_of.ensures)
  | else-is_of w ↦
      ap (λ (s : BTreeSet Path). contains path_cmp s path) w.places-is
      ∙ other-seen (is_kind c.args.kind) (same_path path) c.args.changes.now c.loop-change.change-index c.change-item.result
      (contains path_cmp c.loop-change.places path) c.loop-change-test.true c.change-item.is
      (sym c.is_of.ensures ∙ w.if-is_of.false) (c.loop-change.invariant path)
]
