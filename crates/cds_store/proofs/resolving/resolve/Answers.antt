use Rattle.std.proofs.Common.{◌∙◌, ◌++◌, ◌∷◌, [], ap, sym, append_assoc, subst, rules, List}
use Rattle.std.specs.BTreeMap.{get}
use Rattle.std.specs.Vec.Iter.{into_iter_items}
use Rattle.cds_object.specs.Path.{path_cmp}
use Rattle.cds_store.specs.Found.{KnowsPlaces}
use Rattle.cds_store.specs.declared.resolving.Resolution.{Resolution}
use Rattle.cds_store.specs.declared.subtrees.MarkedChange.{MarkedChange}
use Rattle.cds_store.proofs.NextResolved.{resolved_none, number_within, resolving_next}
use Rattle.cds_store.proofs.resolving.resolve.Goals as goal

pub loop-marked-init : goal.loop-marked-init
loop-marked-init c = record {
  parted = search rules;
  follows =
      let first : Resolution = record { number = c.number.result; drawn = c.drawn.result; resolved = c.new.result; told = c.new-2.result; gone = c.new-3.result; come = c.new-4.result } in
      resolved_none c.args.catalog.now first c.number.ensures c.drawn.ensures c.new.ensures.items c.new-2.ensures.items c.new-3.ensures.empty c.new-4.ensures.items;
  knows = subst (KnowsPlaces (get path_cmp c.in_ok-places.places)) c.rows.ensures c.in_ok-places.ensures;
}

pub resolve_next-requires-clause-number : goal.resolve_next-requires-clause-number
resolve_next-requires-clause-number c =
    (number_within c.args.catalog.now c.args.plan.items c.loop-marked.yielded (into_iter_items c.loop-marked.marked-iterator) (into_iter_items c.next.new.self) c.in-Some.marked
    c.loop-marked.so_far c.requires c.loop-marked.invariant.parted c.in-Some.ensures.steps.0 c.loop-marked.invariant.follows).0

pub resolve_next-requires-clause-drawn : goal.resolve_next-requires-clause-drawn
resolve_next-requires-clause-drawn c =
    (number_within c.args.catalog.now c.args.plan.items c.loop-marked.yielded (into_iter_items c.loop-marked.marked-iterator) (into_iter_items c.next.new.self) c.in-Some.marked
    c.loop-marked.so_far c.requires c.loop-marked.invariant.parted c.in-Some.ensures.steps.0 c.loop-marked.invariant.follows).1

pub loop-marked-preserved : goal.loop-marked-preserved
loop-marked-preserved c =
    let both = resolving_next c.args.catalog.now c.args.plan.items c.loop-marked.yielded (into_iter_items c.loop-marked.marked-iterator) (into_iter_items c.next.new.self) c.in-Some.marked
    c.loop-marked.so_far c.resolve_next.new.so_far (get path_cmp c.loop-marked.places) (get path_cmp c.resolve_next.new.places) c.requires c.loop-marked.invariant.parted
    c.in-Some.ensures.steps.0 c.loop-marked.invariant.knows c.loop-marked.invariant.follows c.in_ok-resolve_next.ensures in
    record {
      parted = c.loop-marked.invariant.parted ∙ ap (λ (l : List MarkedChange). c.loop-marked.yielded ++ l) c.in-Some.ensures.steps.0
          ∙ sym (append_assoc c.loop-marked.yielded (c.in-Some.marked ∷ []) (into_iter_items c.next.new.self));
      follows = both.0;
      knows = both.1;
    }
