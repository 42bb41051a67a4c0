use Rattle.std.proofs.Common.{◌∙◌, ◌++◌, ◌∷◌, [], ap, sym, append_assoc, List}
use Rattle.std.specs.Vec.Iter.{into_iter_items}
use Rattle.cds_store.specs.declared.subtrees.MarkedChange.{MarkedChange}
use Rattle.cds_store.proofs.MakingAll.{can-make-marked_change, made-more, told-more}
use Rattle.cds_store.proofs.catalog.Catalog.make_all.Goals as goal

pub note-requires : goal.note-requires
note-requires c =
    can-make-marked_change c.args.self.now c.loop-marked_change.self c.args.plan.items c.requires c.loop-marked_change.yielded (into_iter_items c.loop-marked_change.marked_change-iterator)
    (into_iter_items c.next.new.self) c.in-Some.marked_change c.loop-marked_change.invariant.parted c.in-Some.ensures.steps.0 c.loop-marked_change.invariant.made

pub make-requires : goal.make-requires
make-requires c =
    can-make-marked_change c.args.self.now c.loop-marked_change.self c.args.plan.items c.requires c.loop-marked_change.yielded (into_iter_items c.loop-marked_change.marked_change-iterator)
    (into_iter_items c.next.new.self) c.in-Some.marked_change c.loop-marked_change.invariant.parted c.in-Some.ensures.steps.0 c.loop-marked_change.invariant.made

pub loop-marked_change-preserved : goal.loop-marked_change-preserved
loop-marked_change-preserved c = record {
  parted = c.loop-marked_change.invariant.parted ∙ ap (λ (l : List MarkedChange). c.loop-marked_change.yielded ++ l) c.in-Some.ensures.steps.0
      ∙ sym (append_assoc c.loop-marked_change.yielded (c.in-Some.marked_change ∷ []) (into_iter_items c.next.new.self));
  made = made-more c.args.self.now c.loop-marked_change.self c.make.new.self c.loop-marked_change.yielded c.in-Some.marked_change c.loop-marked_change.invariant.made c.in_ok-make.ensures;
  told = told-more c.args.self.now c.loop-marked_change.self c.loop-marked_change.yielded c.in-Some.marked_change c.loop-marked_change.told.items c.note.new.told.items
      c.loop-marked_change.invariant.made c.loop-marked_change.invariant.told c.in_ok-note.ensures;
}
