-- Two spans one behind the other are one, and later scans change nothing of a span.
use Rattle.std.proofs.Common.{◌≡◌, ◌+◌, ◌≤◌, ◌<◌, ℕ, Bool, true, false, cond, ◌&&◌, nat_lt, nat_le, List, [], ◌∷◌, ◌++◌, filter, length, refl, sym, ap, ◌∙◌, append_assoc, length-append, arith, lt-ltb, le-ltb, le-leb, leb-true, leb-false}
use Rattle.std.specs.List.{AllByRecursion}
use Rattle.std.proofs.lemmas.Bool.{lt-leb}
use Rattle.std.proofs.lemmas.List.{append-nil}
use Rattle.std.proofs.lemmas.List.Elements.{filter-append}
use Rattle.cds_object.specs.declared.event.Event.{Event}
use Rattle.cds_catalog.specs.Library.{FolderMap, found}
use Rattle.cds_catalog.specs.History.{History, latest, changes_of, end_of}
use Rattle.cds_catalog.specs.declared.change.Change.{Change}
use Rattle.cds_catalog.proofs.Numbers.{length_of_more}
use Rattle.cds_changes.specs.Events.{scan_events, all_events, heads_done, is_in_subtree, change_events, events_between}
use Rattle.cds_changes.proofs.Numbers.{numbered}
use Rattle.cds_changes.proofs.Within.{Lies, scan-lies, all-lie, done-are}
use Rattle.cds_object.specs.Events.{update_of}

-- whether an event lies in a span
abbrev pub is_in : ℕ → ℕ → Event → Bool
is_in from to event = nat_lt from (update_of event) && nat_le (update_of event) to

abbrev pub span : ℕ → ℕ → List Event → List Event
span from to events = filter (is_in from to) events

not_above : (from to : ℕ) (event : Event) → update_of event ≤ from → is_in from to event ≡ false
not_above from to event low = λ i. le-ltb from (update_of event) low i && nat_le (update_of event) to

not_within : (from to : ℕ) (event : Event) → to < update_of event → is_in from to event ≡ false
not_within from to event high = by (nat_lt from (update_of event)) (lt-leb (update_of event) to high)
  where
    by : (b : Bool) → nat_le (update_of event) to ≡ false → b && nat_le (update_of event) to ≡ false
    by true h = h
    by false h = refl

-- of events that do not lie in a span there are none in it
pub none_in : (from to : ℕ) (events : List Event) → AllByRecursion (λ event. is_in from to event ≡ false) events → span from to events ≡ []
none_in from to [] all = refl
none_in from to (event ∷ events) all =
    (λ i. cond (all.0 i) (event ∷ span from to events) (span from to events)) ∙ none_in from to events all.1

each : {P Q : Event → Type 0} → ((event : Event) → P event → Q event) → (events : List Event) → AllByRecursion P events → AllByRecursion Q events
each f [] all = tt
each f (event ∷ events) all = (f event all.0, each f events all.1)

pub none_above : (from to high low : ℕ) (events : List Event) → AllByRecursion (Lies low high) events → high ≤ from → span from to events ≡ []
none_above from to high low events all most =
    none_in from to events (each (λ event lies. not_above from to event (let w = lies.within in omega (arith, w, most))) events all)

pub none_within : (from to low high : ℕ) (events : List Event) → AllByRecursion (Lies low high) events → to ≤ low → span from to events ≡ []
none_within from to low high events all least =
    none_in from to events (each (λ event lies. not_within from to event (let a = lies.above in omega (arith, a, least))) events all)

-- events whose spans join
abbrev pub Joins : ℕ → ℕ → ℕ → List Event → Type 0
Joins from middle to events = span from to events ≡ span from middle events ++ span middle to events

-- events up to a number and events above it
pub joins-append : (from middle to cut low high : ℕ) (older newer : List Event)
    → AllByRecursion (Lies low cut) older → AllByRecursion (Lies cut high) newer
    → Joins from middle to older → Joins from middle to newer → Joins from middle to (older ++ newer)
joins-append from middle to cut low high older newer few many one other =
    filter-append (is_in from to) older newer
    ∙ ap (λ (l : List Event). l ++ span from to newer) one
    ∙ ap (λ (l : List Event). (span from middle older ++ span middle to older) ++ l) other
    ∙ by (nat_le cut middle) refl
    ∙ sym (ap (λ (l : List Event). l ++ span middle to (older ++ newer)) (filter-append (is_in from middle) older newer)
    ∙ ap (λ (l : List Event). (span from middle older ++ span from middle newer) ++ l) (filter-append (is_in middle to) older newer))
  where
    Goal : Type 0
    Goal = (span from middle older ++ span middle to older) ++ (span from middle newer ++ span middle to newer)
        ≡ (span from middle older ++ span from middle newer) ++ (span middle to older ++ span middle to newer)

    swap-none : (a b c d : List Event) → b ≡ [] → (a ++ b) ++ (c ++ d) ≡ (a ++ c) ++ (b ++ d)
    swap-none a b c d none =
        ap (λ (l : List Event). (a ++ l) ++ (c ++ d)) none ∙ ap (λ (l : List Event). l ++ (c ++ d)) (append-nil a)
        ∙ sym (append_assoc a c d) ∙ ap (λ (l : List Event). (a ++ c) ++ (l ++ d)) (sym none)

    swap-none-after : (a b c d : List Event) → c ≡ [] → (a ++ b) ++ (c ++ d) ≡ (a ++ c) ++ (b ++ d)
    swap-none-after a b c d none =
        ap (λ (l : List Event). (a ++ b) ++ (l ++ d)) none ∙ append_assoc a b d
        ∙ ap (λ (l : List Event). l ++ (b ++ d)) (sym (append-nil a)) ∙ ap (λ (l : List Event). (a ++ l) ++ (b ++ d)) (sym none)

    by : (b : Bool) → nat_le cut middle ≡ b → Goal
    by true e = swap-none _ _ _ _ (none_above middle to cut low older few (leb-true cut middle e))
    by false e =
        let h : middle ≤ cut = (let l = leb-false cut middle e in omega (arith, l)) in
        swap-none-after _ _ _ _ (none_within from middle cut high newer many h)

filter-same : (p q : Event → Bool) (events : List Event) → AllByRecursion (λ event. p event ≡ q event) events → filter p events ≡ filter q events
filter-same p q [] all = refl
filter-same p q (event ∷ events) all =
    (λ i. cond (all.0 i) (event ∷ filter p events) (filter p events))
    ∙ ap (λ (l : List Event). cond (q event) (event ∷ l) l) (filter-same p q events all.1)

-- events of one number
pub joins-one : (from middle to number : ℕ) (events : List Event) → from ≤ middle → middle ≤ to
    → AllByRecursion (λ event. update_of event ≡ number) events → Joins from middle to events
joins-one from middle to number events low high all = by (nat_le number middle) refl
  where
    below : number ≤ middle → (event : Event) → update_of event ≡ number → is_in from to event ≡ is_in from middle event
    below l event e =
        let here : update_of event ≤ middle = omega (arith, l, e) in
        let there : update_of event ≤ to = omega (arith, l, e, high) in
        ap (λ (b : Bool). nat_lt from (update_of event) && b) (le-leb (update_of event) to there ∙ sym (le-leb (update_of event) middle here))

    past : middle < number → (event : Event) → update_of event ≡ number → is_in from to event ≡ is_in middle to event
    past l event e =
        let here : from < update_of event = omega (arith, l, e, low) in
        let there : middle < update_of event = omega (arith, l, e) in
        ap (λ (b : Bool). b && nat_le (update_of event) to) (lt-ltb from (update_of event) here ∙ sym (lt-ltb middle (update_of event) there))

    by : (b : Bool) → nat_le number middle ≡ b → Joins from middle to events
    by true e =
        let l : number ≤ middle = leb-true number middle e in
        filter-same (is_in from to) (is_in from middle) events (each (below l) events all)
        ∙ sym (append-nil (span from middle events))
        ∙ ap (λ (x : List Event). span from middle events ++ x)
        (sym (none_in middle to events (each (λ event n. not_above middle to event (omega (arith, n, l))) events all)))
    by false e =
        let l : middle < number = leb-false number middle e in
        filter-same (is_in from to) (is_in middle to) events (each (past l) events all)
        ∙ ap (λ (x : List Event). x ++ span middle to events)
        (sym (none_in from middle events (each (λ event n. not_within from middle event (omega (arith, n, l))) events all)))

scan-joins : (from middle to first : ℕ) (before scan part : List Change) → from ≤ middle → middle ≤ to
    → Joins from middle to (scan_events first before scan part)
scan-joins from middle to first before scan [] low high = refl
scan-joins from middle to first before scan (change ∷ earlier) low high =
    joins-append from middle to (first + length before + length earlier) (first + length before) (first + length (change ∷ earlier ++ before))
    (scan_events first before scan earlier)
    (change_events first scan change (earlier ++ before))
    (scan-lies first before scan earlier)
    (each lies (change_events first scan change (earlier ++ before)) these)
    (scan-joins from middle to first before scan earlier low high)
    (joins-one from middle to (first + length (change ∷ earlier ++ before)) (change_events first scan change (earlier ++ before)) low high these)
  where
    these : AllByRecursion (λ event. update_of event ≡ first + length (change ∷ earlier ++ before))
        (change_events first scan change (earlier ++ before))
    these = (
      numbered (first + length (change ∷ earlier ++ before)) (earlier ++ before) change (is_in_subtree scan change),
      done-are (first + length (change ∷ earlier ++ before)) (change ∷ earlier ++ before) (heads_done scan change),
    )

    lies : (event : Event) → update_of event ≡ first + length (change ∷ earlier ++ before)
        → Lies (first + length before + length earlier) (first + length (change ∷ earlier ++ before)) event
    lies event n = let sum = length-append earlier before in record {
      above = omega (arith, n, sum);
      within = omega (arith, n);
    }

all-joins : (from middle to first : ℕ) (maps : List FolderMap) → from ≤ middle → middle ≤ to → Joins from middle to (all_events first maps)
all-joins from middle to first [] low high = refl
all-joins from middle to first (library ∷ older) low high =
    joins-append from middle to (first + length (changes_of older)) first (first + length (changes_of older) + length (found (latest older) library))
    (all_events first older) (scan_events first (changes_of older) (found (latest older) library) (found (latest older) library))
    (all-lie first older)
    (scan-lies first (changes_of older) (found (latest older) library) (found (latest older) library))
    (all-joins from middle to first older low high)
    (scan-joins from middle to first (changes_of older) (found (latest older) library) (found (latest older) library) low high)

pub spans-join : (history : History) (from middle to : ℕ) → from ≤ middle → middle ≤ to
    → events_between history from to ≡ events_between history from middle ++ events_between history middle to
spans-join history from middle to low high = all-joins from middle to history.first history.maps low high

-- the events of more scans stand behind those of the older ones
stays : (first : ℕ) (newer older : List FolderMap) (from to : ℕ) → to ≤ end_of (record { first = first; maps = older })
    → span from to (all_events first (newer ++ older)) ≡ span from to (all_events first older)
stays first [] older from to most = refl
stays first (library ∷ newer) older from to most =
    filter-append (is_in from to) (all_events first (newer ++ older)) _
    ∙ ap (λ (l : List Event). span from to (all_events first (newer ++ older)) ++ l)
    (none_within from to (first + length (changes_of (newer ++ older)))
    (first + length (changes_of (newer ++ older)) + length (found (latest (newer ++ older)) library)) _
    (scan-lies first (changes_of (newer ++ older)) (found (latest (newer ++ older)) library) (found (latest (newer ++ older)) library))
    (let rise = length_of_more newer older in omega (arith, rise, most)))
    ∙ append-nil (span from to (all_events first (newer ++ older)))
    ∙ stays first newer older from to most

pub spans-stay : (first : ℕ) (newer older : List FolderMap) (from to : ℕ) → to ≤ end_of (record { first = first; maps = older })
    → events_between (record { first = first; maps = newer ++ older }) from to ≡ events_between (record { first = first; maps = older }) from to
spans-stay = stays
