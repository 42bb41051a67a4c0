use Rattle.std.proofs.Common.{◌≡◌, ◌+◌, ◌<◌, ℕ, List, length, take, true, false, sym, subst, ◌∙◌, arith, rules}
use Rattle.std.specs.Prelude.{filter, slice_get}
use Rattle.cds_object.specs.Tree.{is_child_of}
use Rattle.cds_browse.specs.Places.{ArePlaces, passes}
use Rattle.cds_browse.proofs.Placing.{place_more, place_passed}
use Rattle.cds_browse.proofs.ordered.places_of_children.Goals.{then-is_child+in_ok-push, else-is_child}
use Rattle.cds_browse.proofs.ordered.places_of_children.Goals as goal

pub loop-place-preserved : goal.loop-place-preserved
loop-place-preserved g c =
    let rows = g.V.View.rows c.args.view.now in
    let test = is_child_of c.args.id in
    let within : c.loop-place.place < length rows = omega (arith, c.loop-place-test.true, c.len-place-end.ensures.exact) in
    elim c.if-is_child.branch [
      | then-is_child+in_ok-push w ↦
          let pass : passes test (slice_get rows c.loop-place.place) ≡ true = sym c.is_child.ensures ∙ w.if-is_child.true in
          let more = place_more rows test c.loop-place.places.items c.loop-place.place pass c.loop-place.invariant in
          subst (λ (l : List ℕ). ArePlaces rows l (filter test (take (c.loop-place.place + 1) rows))) (search rules) more
      | else-is_child w ↦
          let pass : passes test (slice_get rows c.loop-place.place) ≡ false = sym c.is_child.ensures ∙ w.if-is_child.false in
          let more = place_passed rows test c.loop-place.places.items c.loop-place.place within pass c.loop-place.invariant in
          subst (λ (l : List ℕ). ArePlaces rows l (filter test (take (c.loop-place.place + 1) rows))) (search rules) more
    ]
