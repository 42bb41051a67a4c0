use Rattle.std.proofs.Common.{◌≡◌, ◌+◌, ◌<◌, ℕ, List, length, take, sym, ap, subst, ◌∙◌, arith, rules}
use Rattle.std.specs.Prelude.{filter, slice_get}
use Rattle.cds_browse.specs.Lineage.{is_found}
use Rattle.cds_browse.specs.Places.{ArePlaces, passes}
use Rattle.cds_browse.proofs.Lineage.{all_found}
use Rattle.cds_browse.proofs.Placing.{place_more, place_passed, all_places}
use Rattle.cds_browse.proofs.descendants.places_below.Goals.{then-finds+in_ok-push, else-finds}
use Rattle.cds_browse.proofs.descendants.places_below.Goals as goal

pub loop-place-preserved : goal.loop-place-preserved
loop-place-preserved g c =
    let rows = g.V.View.rows c.args.view.now in
    let test = is_found c.args.criteria.now c.args.container rows in
    let within : c.loop-place.place < length rows = omega (arith, c.loop-place-test.true, c.len-place-end.ensures.exact) in
    let exact : c.finds.result ≡ passes test (slice_get rows c.loop-place.place) =
    c.finds.ensures.exact ∙ ap (λ n. passes (is_found c.args.criteria.now n rows) (slice_get rows c.loop-place.place)) c.loop-place.invariant.container in
    record {
      container = c.finds.ensures.container ∙ c.loop-place.invariant.container;
      known = c.finds.ensures.known;
      last = c.finds.ensures.last;
      found = elim c.if-finds.branch [
        | then-finds+in_ok-push w ↦
            let more = place_more rows test c.loop-place.places.items c.loop-place.place (sym exact ∙ w.if-finds.true) c.loop-place.invariant.found in
            subst (λ (l : List ℕ). ArePlaces rows l (filter test (take (c.loop-place.place + 1) rows))) (search rules) more
        | else-finds w ↦
            let more = place_passed rows test c.loop-place.places.items c.loop-place.place within (sym exact ∙ w.if-finds.false) c.loop-place.invariant.found in
            subst (λ (l : List ℕ). ArePlaces rows l (filter test (take (c.loop-place.place + 1) rows))) (search rules) more
      ];
    }

pub returns : goal.returns
returns g c =
    let rows = g.V.View.rows c.args.view.now in
    let test = is_found c.args.criteria.now c.args.container rows in
    all_found c.args.criteria.now c.args.container rows c.loop-place.places.items
    (all_places rows test c.loop-place.places.items c.loop-place.place (omega (arith, c.loop-place-test.false, c.len-place-end.ensures.exact)) c.loop-place.invariant.found)
