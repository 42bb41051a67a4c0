use Rattle.std.proofs.Common.{◌∙◌, ◌+◌, ◌≤◌, ◌++◌, ◌∷◌, [], ap, sym, subst, append_assoc, List, nat_cmp, refl, rules}
use Rattle.std.specs.BTreeSet.{contains}
use Rattle.std.specs.Vec.Iter.{into_iter_items}
use Rattle.std.proofs.lemmas.List.{nil_from_length}
use Rattle.cds_catalog.specs.Steps.{Standing}
use Rattle.cds_store.specs.Resolved.{rows_by_ids}
use Rattle.cds_store.specs.declared.resolving.Resolved.{Resolved}
use Rattle.cds_store.proofs.Committing.{IsMade, drawn_by_scan, wants_next, made_next, made_all, room_for, spare_next, all_yielded}
use Rattle.cds_store.proofs.catalog.Catalog.commit.Goals as goal

pub overflow_sub-scan : goal.overflow_sub-scan
overflow_sub-scan c = subst (λ (s : Standing). s.drawn ≤ c.args.scan.drawn) (sym c.self.view_is) (drawn_by_scan c.args.self.now c.args.scan c.requires)

pub overflow_add-number : goal.overflow_add-number
overflow_add-number c =
    let fits = (wants_next c.args.self.now c.args.scan c.loop-next.yielded (into_iter_items c.loop-next.next-iterator) (into_iter_items c.next.new.self) c.in-Some.next
    (record { number = c.loop-next.self-inside.number; drawn = c.loop-next.self-inside.drawn; rows = c.loop-next.self-inside.rows.items }) c.requires
    c.loop-next.invariant.parted c.in-Some.ensures.steps.0 c.loop-next.invariant.made).number_fits in
    search rules

pub drawn_after-drawn-requires : goal.drawn_after-drawn-requires
drawn_after-drawn-requires c =
    (wants_next c.args.self.now c.args.scan c.loop-next.yielded (into_iter_items c.loop-next.next-iterator) (into_iter_items c.next.new.self) c.in-Some.next
    (record { number = c.loop-next.self-inside.number; drawn = c.loop-next.self-inside.drawn; rows = c.loop-next.self-inside.rows.items }) c.requires
    c.loop-next.invariant.parted c.in-Some.ensures.steps.0 c.loop-next.invariant.made).drawn_fits

pub make_by_ids-requires-clause-ascending : goal.make_by_ids-requires-clause-ascending
make_by_ids-requires-clause-ascending c =
    (wants_next c.args.self.now c.args.scan c.loop-next.yielded (into_iter_items c.loop-next.next-iterator) (into_iter_items c.next.new.self) c.in-Some.next
    (record { number = c.loop-next.self-inside.number; drawn = c.loop-next.self-inside.drawn; rows = c.loop-next.self-inside.rows.items }) c.requires
    c.loop-next.invariant.parted c.in-Some.ensures.steps.0 c.loop-next.invariant.made).ascending

pub make_by_ids-requires-clause-room : goal.make_by_ids-requires-clause-room
make_by_ids-requires-clause-room c =
    (wants_next c.args.self.now c.args.scan c.loop-next.yielded (into_iter_items c.loop-next.next-iterator) (into_iter_items c.next.new.self) c.in-Some.next
    (record { number = c.loop-next.self-inside.number; drawn = c.loop-next.self-inside.drawn; rows = c.loop-next.self-inside.rows.items }) c.requires
    c.loop-next.invariant.parted c.in-Some.ensures.steps.0 c.loop-next.invariant.made).room

pub make_by_ids-requires-clause-kinds : goal.make_by_ids-requires-clause-kinds
make_by_ids-requires-clause-kinds c =
    (wants_next c.args.self.now c.args.scan c.loop-next.yielded (into_iter_items c.loop-next.next-iterator) (into_iter_items c.next.new.self) c.in-Some.next
    (record { number = c.loop-next.self-inside.number; drawn = c.loop-next.self-inside.drawn; rows = c.loop-next.self-inside.rows.items }) c.requires
    c.loop-next.invariant.parted c.in-Some.ensures.steps.0 c.loop-next.invariant.made).kinds

pub make_by_ids-requires-clause-spare : goal.make_by_ids-requires-clause-spare
make_by_ids-requires-clause-spare c = λ adds.
    room_for c.in-Some.next.change c.loop-next.self-inside.drawn c.drawn_after-drawn.result c.args.scan.drawn _ _ adds c.drawn_after-drawn.ensures
    ((wants_next c.args.self.now c.args.scan c.loop-next.yielded (into_iter_items c.loop-next.next-iterator) (into_iter_items c.next.new.self) c.in-Some.next
    (record { number = c.loop-next.self-inside.number; drawn = c.loop-next.self-inside.drawn; rows = c.loop-next.self-inside.rows.items }) c.requires
    c.loop-next.invariant.parted c.in-Some.ensures.steps.0 c.loop-next.invariant.made).within adds) c.loop-next.invariant.spare

pub loop-next-preserved : goal.loop-next-preserved
loop-next-preserved c = record {
  parted = c.loop-next.invariant.parted ∙ ap (λ (l : List Resolved). c.loop-next.yielded ++ l) c.in-Some.ensures.steps.0
      ∙ sym (append_assoc c.loop-next.yielded (c.in-Some.next ∷ []) (into_iter_items c.next.new.self));
  made =
      let before : Standing = record { number = c.loop-next.self-inside.number; drawn = c.loop-next.self-inside.drawn; rows = c.loop-next.self-inside.rows.items } in
      let now : Standing = record { number = c.loop-next.self-inside.number + 1; drawn = c.drawn_after-drawn.result; rows = c.make_by_ids.new.rows.items } in
      made_next c.args.self.now c.args.scan c.loop-next.yielded c.in-Some.next before now c.loop-next.invariant.made
      (wants_next c.args.self.now c.args.scan c.loop-next.yielded (into_iter_items c.loop-next.next-iterator) (into_iter_items c.next.new.self) c.in-Some.next
      (record { number = c.loop-next.self-inside.number; drawn = c.loop-next.self-inside.drawn; rows = c.loop-next.self-inside.rows.items }) c.requires
      c.loop-next.invariant.parted c.in-Some.ensures.steps.0 c.loop-next.invariant.made)
      refl c.drawn_after-drawn.ensures
      (c.make_by_ids.ensures.rows
      ∙ ap (λ n. rows_by_ids (c.loop-next.self-inside.number + 1) n c.in-Some.next.change c.in-Some.next.own c.in-Some.next.parent c.loop-next.self-inside.rows.items)
      c.drawn_after-drawn.ensures);
  spare = spare_next c.in-Some.next.change c.loop-next.self-inside.drawn c.drawn_after-drawn.result c.args.scan.drawn _ _ _ _ c.drawn_after-drawn.ensures
      c.make_by_ids.ensures.len c.make_by_ids.ensures.capacity c.loop-next.invariant.spare;
}

pub returns-clause-made : goal.returns-clause-made
returns-clause-made c =
    let now : Standing = record { number = c.loop-next.self-inside.number; drawn = c.loop-next.self-inside.drawn; rows = c.loop-next.self-inside.rows.items } in
    made_all c.args.self.now c.args.scan now c.requires
    (subst (λ (l : List Resolved). IsMade c.args.self.now (contains nat_cmp c.args.scan.gone) l now)
    (all_yielded c.args.scan.resolved.items c.loop-next.yielded (into_iter_items c.loop-next.next-iterator) c.loop-next.invariant.parted (nil_from_length (into_iter_items c.loop-next.next-iterator) (search (rules, c.in-None.ensures.steps.0))))
    c.loop-next.invariant.made)
