-- A plan that is made change by change, the oldest first.
use Rattle.std.proofs.Common.{◌≡◌, List, [], ◌∷◌, ◌++◌, reverse, sym, ◌∙◌, ap, subst}
use Rattle.std.proofs.lemmas.List.{map-append, reverse-append}
use Rattle.cds_catalog.specs.Steps.{Standing, step, stepped}
use Rattle.cds_changes.specs.declared.event_with_parent.EventWithParent.{EventWithParent}
use Rattle.cds_store.specs.Rows.{CanMake}
use Rattle.cds_store.specs.Stands.{IsScan}
use Rattle.cds_store.specs.ChangeEvents.{changes_in, events_by, all_events_by}
use Rattle.cds_store.specs.declared.subtrees.MarkedChange.{MarkedChange}
use Rattle.cds_store.proofs.Making.{can_make_next, reversed_parts}

-- the next change of a plan can be made
pub can-make-marked_change : (s now : Standing) (plan : List MarkedChange) → IsScan s (changes_in (reverse plan)) → (made left rest : List MarkedChange) (p : MarkedChange)
    → plan ≡ made ++ left → left ≡ p ∷ rest → now ≡ stepped s (changes_in (reverse made)) → CanMake now p.change
can-make-marked_change s now plan scan made left rest p parted next is =
    subst (λ (t : Standing). CanMake t p.change) (sym is)
    (can_make_next s (changes_in (reverse plan)) scan (changes_in (reverse rest)) (changes_in (reverse made)) p.change
    (ap changes_in (reversed_parts plan made left rest p parted next) ∙ map-append (λ (q : MarkedChange). q.change) (reverse rest) (p ∷ reverse made)))

one-more : (made : List MarkedChange) (p : MarkedChange) → reverse (made ++ p ∷ []) ≡ p ∷ reverse made
one-more made p = reverse-append made (p ∷ [])

pub made-more : (s now next : Standing) (made : List MarkedChange) (p : MarkedChange) → now ≡ stepped s (changes_in (reverse made)) → next ≡ step now p.change
    → next ≡ stepped s (changes_in (reverse (made ++ p ∷ [])))
made-more s now next made p is steps =
    steps ∙ ap (λ (t : Standing). step t p.change) is ∙ ap (λ (l : List MarkedChange). stepped s (changes_in l)) (sym (one-more made p))

pub told-more : (s now : Standing) (made : List MarkedChange) (p : MarkedChange) (told more : List EventWithParent) → now ≡ stepped s (changes_in (reverse made))
    → told ≡ all_events_by s (reverse made) → more ≡ told ++ events_by now p → more ≡ all_events_by s (reverse (made ++ p ∷ []))
told-more s now made p told more is so_far e =
    e ∙ (λ i. so_far i ++ events_by (is i) p) ∙ ap (all_events_by s) (sym (one-more made p))
