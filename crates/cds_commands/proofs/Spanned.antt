-- Changes of spans: those above a number, spans that join, and spans without a change.
use Rattle.std.proofs.Common.{◌≡◌, ◌≤◌, ℕ, max, Bool, true, false, cond, ◌&&◌, nat_lt, nat_le, List, [], ◌∷◌, ◌++◌, filter, refl, sym, ap, ◌∙◌, arith, lt-ltb, le-ltb, ltb-true, ltb-false, leb-true, leb-false}
use Rattle.std.proofs.lemmas.Bool.{lt-leb}
use Rattle.std.proofs.lemmas.List.Elements.{filter-append}
use Rattle.cds_object.specs.declared.event.Event.{Event}
use Rattle.cds_catalog.specs.History.{History}
use Rattle.cds_changes.specs.Events.{all_events, events_between}
use Rattle.cds_changes.proofs.Spans.{is_in, span, spans-join}
use Rattle.cds_commands.specs.Notes.{changes_above}
use Rattle.cds_object.specs.Events.{update_of, is_change}

filter-both : {X : Type 0} (p q : X → Bool) (xs : List X) → filter p (filter q xs) ≡ filter (λ (x : X). q x && p x) xs
filter-both p q [] = refl
filter-both {X} p q (x ∷ xs) = by (q x) (filter-both p q xs)
  where
    by : (b : Bool) → filter p (filter q xs) ≡ filter (λ (y : X). q y && p y) xs
        → filter p (cond b (x ∷ filter q xs) (filter q xs)) ≡ cond (b && p x) (x ∷ filter (λ (y : X). q y && p y) xs) (filter (λ (y : X). q y && p y) xs)
    by true r = ap (λ (l : List X). cond (p x) (x ∷ l) l) r
    by false r = r

filter-agree : {X : Type 0} (p q : X → Bool) → ((x : X) → p x ≡ q x) → (xs : List X) → filter p xs ≡ filter q xs
filter-agree p q same [] = refl
filter-agree {X} p q same (x ∷ xs) =
    (λ i. cond (same x i) (x ∷ filter p xs) (filter p xs)) ∙ ap (λ (l : List X). cond (q x) (x ∷ l) l) (filter-agree p q same xs)

above-both : (p from u : ℕ) → nat_lt (max p from) u ≡ nat_lt from u && nat_lt p u
above-both p from u = by (nat_lt from u) (nat_lt p u) refl refl
  where
    by : (b c : Bool) → nat_lt from u ≡ b → nat_lt p u ≡ c → nat_lt (max p from) u ≡ b && c
    by true true e f = let l = ltb-true from u e in let m = ltb-true p u f in lt-ltb (max p from) u (omega (arith, l, m))
    by true false e f = let m = ltb-false p u f in le-ltb (max p from) u (omega (arith, m))
    by false c e f = let l = ltb-false from u e in le-ltb (max p from) u (omega (arith, l))

-- the changes of a span above a number are those of the span above both
pub above-span : (p from to : ℕ) (events : List Event) → changes_above p (span from to events) ≡ filter is_change (span (max p from) to events)
above-span p from to events =
    filter-both (λ (event : Event). is_change event && nat_lt p (update_of event)) (is_in from to) events
    ∙ filter-agree (λ (event : Event). is_in from to event && (is_change event && nat_lt p (update_of event)))
    (λ (event : Event). is_in (max p from) to event && is_change event) one events
    ∙ sym (filter-both is_change (is_in (max p from) to) events)
  where
    by : (a b c d : Bool) → (c && d) && (a && b) ≡ ((c && b) && d) && a
    by true true true true = refl
    by true true true false = refl
    by true true false d = refl
    by true false true true = refl
    by true false true false = refl
    by true false false d = refl
    by false b true true = none b
      where
        none : (b : Bool) → false ≡ ((true && b) && true) && false
        none true = refl
        none false = refl
    by false b true false = none b
      where
        none : (b : Bool) → false ≡ ((true && b) && false) && false
        none true = refl
        none false = refl
    by false b false d = refl

    one : (event : Event) → is_in from to event && (is_change event && nat_lt p (update_of event)) ≡ is_in (max p from) to event && is_change event
    one event =
        by (is_change event) (nat_lt p (update_of event)) (nat_lt from (update_of event)) (nat_le (update_of event) to)
        ∙ (λ i. (sym (above-both p from (update_of event)) i && nat_le (update_of event) to) && is_change event)

pub above-told : (history : History) (p from to : ℕ) → from ≤ p → changes_above p (events_between history from to) ≡ filter is_change (events_between history p to)
above-told history p from to l =
    let most : max p from ≡ p = omega (arith, l) in
    above-span p from to (all_events history.first history.maps) ∙ ap (λ (n : ℕ). filter is_change (span n to (all_events history.first history.maps))) most

pub above-all : (history : History) (p from to : ℕ) → p ≤ from → changes_above p (events_between history from to) ≡ filter is_change (events_between history from to)
above-all history p from to l =
    let most : max p from ≡ from = omega (arith, l) in
    above-span p from to (all_events history.first history.maps) ∙ ap (λ (n : ℕ). filter is_change (span n to (all_events history.first history.maps))) most

-- what is told above a number of what is told above another
pub above-changes : (history : History) (p from to : ℕ) → from ≤ p → changes_above p (filter is_change (events_between history from to)) ≡ filter is_change (events_between history p to)
above-changes history p from to l = again (events_between history from to) ∙ above-told history p from to l
  where
    again : (events : List Event) → changes_above p (filter is_change events) ≡ changes_above p events
    again [] = refl
    again (event ∷ events) = by (is_change event) refl (again events)
      where
        by : (b : Bool) → is_change event ≡ b → changes_above p (filter is_change events) ≡ changes_above p events
            → changes_above p (cond b (event ∷ filter is_change events) (filter is_change events)) ≡ cond (is_change event && nat_lt p (update_of event)) (event ∷ changes_above p events) (changes_above p events)
        by true e r = ap (λ (l : List Event). cond (is_change event && nat_lt p (update_of event)) (event ∷ l) l) r
        by false e r = r ∙ (λ i. cond (sym e i && nat_lt p (update_of event)) (event ∷ changes_above p events) (changes_above p events))

-- nothing is told where a span ends at or below its beginning
pub none-told : (history : History) (from to : ℕ) → to ≤ from → filter is_change (events_between history from to) ≡ []
none-told history from to l = ap (filter is_change) (none (all_events history.first history.maps))
  where
    none : (events : List Event) → span from to events ≡ []
    none [] = refl
    none (event ∷ events) = ap (λ (b : Bool). cond b (event ∷ span from to events) (span from to events)) (by (nat_lt from (update_of event)) refl) ∙ none events
      where
        by : (b : Bool) → nat_lt from (update_of event) ≡ b → b && nat_le (update_of event) to ≡ false
        by true e = let m = ltb-true from (update_of event) e in lt-leb (update_of event) to (omega (arith, l, m))
        by false e = refl

pub told-join : (history : History) (from middle to : ℕ) → from ≤ middle → middle ≤ to
    → filter is_change (events_between history from middle) ++ filter is_change (events_between history middle to) ≡ filter is_change (events_between history from to)
told-join history from middle to l m =
    sym (filter-append is_change (events_between history from middle) (events_between history middle to)) ∙ ap (filter is_change) (sym (spans-join history from middle to l m))

-- what one span tells and what is new in the next one
pub told-then-new : (history : History) (p middle to : ℕ) → middle ≤ to
    → filter is_change (events_between history p middle) ++ changes_above p (events_between history middle to) ≡ filter is_change (events_between history p to)
told-then-new history p middle to l = by (nat_le p middle) refl
  where
    by : (b : Bool) → nat_le p middle ≡ b
        → filter is_change (events_between history p middle) ++ changes_above p (events_between history middle to) ≡ filter is_change (events_between history p to)
    by true e =
        let low = leb-true p middle e in
        ap (λ (x : List Event). filter is_change (events_between history p middle) ++ x) (above-all history p middle to low) ∙ told-join history p middle to low l
    by false e =
        let high = leb-false p middle e in
        ap (λ (x : List Event). x ++ changes_above p (events_between history middle to)) (none-told history p middle (omega (arith, high)))
        ∙ above-told history p middle to (omega (arith, high))
