use Rattle.std.proofs.Common.{◌≡◌, ◌∙◌, ◌++◌, ◌∷◌, [], List, reverse, sym, ap, subst, append_assoc}
use Rattle.cds_catalog.specs.History.{is_addition, is_deletion}
use Rattle.cds_catalog.specs.declared.change.Change.{Change}
use Rattle.cds_store.specs.ChangeEvents.{changes_in}
use Rattle.cds_store.specs.SubtreeIndex.{Indexes}
use Rattle.cds_store.proofs.SubtreeIndex.{popped, more-marked_change, more-marked}
use Rattle.cds_store.proofs.subtrees.mark_all.Goals as goal

pub loop-change-preserved : goal.loop-change-preserved
loop-change-preserved c =
    let scan : List Change = reverse c.args.changes.items in
    let rest : List Change = reverse c.pop.new.self.items in
    let plan : List Change = changes_in c.loop-change.plan.items in
    let parts : reverse c.loop-change.left.items ≡ c.in-Some.change ∷ rest = popped c.loop-change.left.items c.pop.new.self.items c.in-Some.change c.in-Some.ensures.items in
    let parted : scan ≡ plan ++ c.in-Some.change ∷ rest = c.loop-change.invariant.parted ∙ ap (λ (l : List Change). plan ++ l) parts in
    let said = c.in_ok-marked_change.ensures.said scan plan rest c.loop-change.invariant.gone c.loop-change.invariant.come c.requires parted in
    let more : changes_in c.push.new.self.items ≡ plan ++ c.in-Some.change ∷ [] =
    more-marked_change c.loop-change.plan.items c.push.new.self.items c.in_ok-marked_change.marked_change c.in-Some.change c.in_ok-push.ensures.items c.in_ok-marked_change.ensures.change in
    record {
      parted = parted ∙ sym (append_assoc plan (c.in-Some.change ∷ []) rest) ∙ ap (λ (l : List Change). l ++ rest) (sym more);
      gone = subst (λ (l : List Change). Indexes is_deletion scan l c.look_at.new.gone) (sym more) said.0;
      come = subst (λ (l : List Change). Indexes is_addition scan l c.look_at.new.come) (sym more) said.1;
      marked = more-marked scan c.loop-change.plan.items c.push.new.self.items c.in_ok-marked_change.marked_change c.in-Some.change c.loop-change.left.items c.pop.new.self.items
          c.in_ok-push.ensures.items c.in_ok-marked_change.ensures.change c.in-Some.ensures.items c.loop-change.invariant.marked said.2;
    }
