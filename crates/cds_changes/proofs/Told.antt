-- The events of a span tell exactly the changes whose numbers lie in it.
use Rattle.std.proofs.Common.{◌≡◌, ◌+◌, ◌-◌, ◌≤◌, ◌<◌, ℕ, zero, suc, Bool, true, false, cond, ◌&&◌, nat_lt, nat_le, List, [], ◌∷◌, ◌++◌, map, filter, length, refl, sym, ap, ◌∙◌, arith, lt-ltb, le-ltb, le-leb}
use Rattle.std.specs.List.{range_with_len}
use Rattle.std.proofs.lemmas.Bool.{lt-leb}
use Rattle.std.proofs.lemmas.List.{append-nil}
use Rattle.std.proofs.lemmas.List.Elements.{filter-append}
use Rattle.cds_object.specs.declared.event.Event.{Event}
use Rattle.cds_catalog.specs.History.{History, changes_of, end_of}
use Rattle.cds_changes.specs.Events.{all_events, events_between}
use Rattle.cds_changes.proofs.Numbers.{numbers, all-numbers, range-append}
use Rattle.cds_changes.proofs.Spans.{is_in, span}
use Rattle.cds_object.specs.Events.{update_of, is_change}

-- whether a number lies in a span
abbrev pub has_number : ℕ → ℕ → ℕ → Bool
has_number from to number = nat_lt from number && nat_le number to

-- the numbers of a span's changes are those of all changes that lie in it
span-numbers : (from to : ℕ) (events : List Event) → numbers (span from to events) ≡ filter (has_number from to) (numbers events)
span-numbers from to [] = refl
span-numbers from to (event ∷ events) = by (is_in from to event) (is_change event) refl refl (span-numbers from to events)
  where
    by : (b c : Bool) → is_in from to event ≡ b → is_change event ≡ c → numbers (span from to events) ≡ filter (has_number from to) (numbers events)
        → numbers (cond b (event ∷ span from to events) (span from to events)) ≡ filter (has_number from to) (map update_of (cond c (event ∷ filter is_change events) (filter is_change events)))
    by true true e k rest =
        (λ i. map update_of (cond (k i) (event ∷ filter is_change (span from to events)) (filter is_change (span from to events))))
        ∙ ap (λ (l : List ℕ). update_of event ∷ l) rest
        ∙ (λ i. cond (sym e i) (update_of event ∷ filter (has_number from to) (numbers events)) (filter (has_number from to) (numbers events)))
    by true false e k rest =
        (λ i. map update_of (cond (k i) (event ∷ filter is_change (span from to events)) (filter is_change (span from to events)))) ∙ rest
    by false true e k rest =
        rest ∙ (λ i. cond (sym e i) (update_of event ∷ filter (has_number from to) (numbers events)) (filter (has_number from to) (numbers events)))
    by false false e k rest = rest

-- of numbers in a row, those up to where a span begins, those in it, and those past it
none_before : (from to a n : ℕ) → a + n ≤ from + 1 → filter (has_number from to) (range_with_len a n) ≡ []
none_before from to a zero most = refl
none_before from to a (suc n) most =
    let low : a ≤ from = omega (arith, most) in
    let rest : a + 1 + n ≤ from + 1 = omega (arith, most) in
    (λ i. cond (le-ltb from a low i && nat_le a to) (a ∷ filter (has_number from to) (range_with_len (a + 1) n)) (filter (has_number from to) (range_with_len (a + 1) n)))
    ∙ none_before from to (a + 1) n rest

none_past : (from to a n : ℕ) → to < a → filter (has_number from to) (range_with_len a n) ≡ []
none_past from to a zero least = refl
none_past from to a (suc n) least =
    let more : to < a + 1 = omega (arith, least) in
    ap (λ (b : Bool). cond b (a ∷ filter (has_number from to) (range_with_len (a + 1) n)) (filter (has_number from to) (range_with_len (a + 1) n))) (by (nat_lt from a) (lt-leb a to least))
    ∙ none_past from to (a + 1) n more
  where
    by : (b : Bool) → nat_le a to ≡ false → b && nat_le a to ≡ false
    by true h = h
    by false h = refl

all_inside : (from to a n : ℕ) → from < a → a + n ≤ to + 1 → filter (has_number from to) (range_with_len a n) ≡ range_with_len a n
all_inside from to a zero low high = refl
all_inside from to a (suc n) low high =
    let here : a ≤ to = omega (arith, high) in
    let next : from < a + 1 = omega (arith, low) in
    let rest : a + 1 + n ≤ to + 1 = omega (arith, high) in
    (λ i. cond (lt-ltb from a low i && le-leb a to here i) (a ∷ filter (has_number from to) (range_with_len (a + 1) n)) (filter (has_number from to) (range_with_len (a + 1) n)))
    ∙ ap (λ (l : List ℕ). a ∷ l) (all_inside from to (a + 1) n next rest)

-- numbers in a row, cut at both ends of a span
cut : (a n k more : ℕ) → k + more ≤ n → range_with_len a n ≡ range_with_len a k ++ (range_with_len (a + k) more ++ range_with_len (a + k + more) (n - (k + more)))
cut a n k more most =
    let whole : n ≡ k + (more + (n - (k + more))) = omega (arith, most) in
    ap (range_with_len a) whole ∙ range-append a k (more + (n - (k + more)))
    ∙ ap (λ (l : List ℕ). range_with_len a k ++ l) (range-append (a + k) more (n - (k + more)))

pub spans-tell : (history : History) (from more : ℕ) → history.first ≤ from → from + more ≤ end_of history
    → map update_of (filter is_change (events_between history from (from + more))) ≡ range_with_len (from + 1) more
spans-tell history from more low high =
    span-numbers from (from + more) (all_events history.first history.maps)
    ∙ ap (filter (has_number from (from + more))) (all-numbers history.first history.maps)
    ∙ ap (filter (has_number from (from + more))) (cut (history.first + 1) (length (changes_of history.maps)) (from - history.first) more (omega (arith, low, high)))
    ∙ filter-append (has_number from (from + more)) (range_with_len (history.first + 1) (from - history.first)) _
    ∙ ap (λ (l : List ℕ). l ++ filter (has_number from (from + more)) (range_with_len (history.first + 1 + (from - history.first)) more ++ past)) (none_before from (from + more) (history.first + 1) (from - history.first) (omega (arith, low)))
    ∙ filter-append (has_number from (from + more)) (range_with_len (history.first + 1 + (from - history.first)) more) past
    ∙ ap (λ (l : List ℕ). l ++ filter (has_number from (from + more)) past)
    (all_inside from (from + more) (history.first + 1 + (from - history.first)) more (omega (arith, low)) (omega (arith, low)))
    ∙ ap (λ (l : List ℕ). range_with_len (history.first + 1 + (from - history.first)) more ++ l)
    (none_past from (from + more) (history.first + 1 + (from - history.first) + more) (length (changes_of history.maps) - (from - history.first + more)) (omega (arith, low)))
    ∙ append-nil (range_with_len (history.first + 1 + (from - history.first)) more)
    ∙ ap (λ (x : ℕ). range_with_len x more) start
  where
    past : List ℕ
    past = range_with_len (history.first + 1 + (from - history.first) + more) (length (changes_of history.maps) - (from - history.first + more))

    start : history.first + 1 + (from - history.first) ≡ from + 1
    start = omega (arith, low)
