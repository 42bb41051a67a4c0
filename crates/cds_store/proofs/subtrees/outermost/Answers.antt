use Rattle.std.proofs.Common.{◌≡◌, ◌∙◌, true, ap, sym}
use Rattle.std.specs.BTreeSet.{contains}
use Rattle.cds_object.specs.Path.{path_cmp, parent_of}
use Rattle.cds_changes.specs.Subtrees.{is_over}
use Rattle.cds_changes.proofs.Places.{over-itself}
use Rattle.cds_store.proofs.SubtreeIndex.{over-up, parent-named, shorter}
use Rattle.cds_store.proofs.subtrees.outermost.Goals as goal

pub loop-alloc-init : goal.loop-alloc-init
loop-alloc-init c = record {
  over = ap (λ q. is_over q c.args.path.now) c.in_ok-top.ensures ∙ over-itself c.args.path.now;
  member = λ e. ap (contains path_cmp c.args.places.now) c.in_ok-top.ensures ∙ e;
  parent = c.in_ok-parent.ensures ∙ ap parent_of (sym c.in_ok-top.ensures);
}

pub loop-alloc-smaller : goal.loop-alloc-smaller
loop-alloc-smaller c =
    shorter (contains path_cmp c.args.places.now) c.loop-alloc.parent c.in_ok-above.above c.requires (sym c.contains.ensures ∙ c.loop-alloc-test.true) c.in_ok-above.ensures

pub loop-alloc-preserved : goal.loop-alloc-preserved
loop-alloc-preserved c =
    let there : contains path_cmp c.args.places.now c.loop-alloc.parent ≡ true = sym c.contains.ensures ∙ c.loop-alloc-test.true in
    record {
      over = ap (λ q. is_over q c.args.path.now) c.loop-alloc.invariant.parent
          ∙ over-up c.loop-alloc.top c.args.path.now
          (parent-named (contains path_cmp c.args.places.now) c.loop-alloc.top c.loop-alloc.parent c.requires there c.loop-alloc.invariant.parent)
          c.loop-alloc.invariant.over;
      member = λ e. there;
      parent = c.in_ok-above.ensures;
    }
