-- The events that a store keeps: those of a history above the number up to which they are forgotten.
use Rattle.std.proofs.Common.{◌≡◌, ◌+◌, ◌≤◌, ◌<◌, ℕ, Bool, true, false, cond, max, ◌&&◌, ◌||◌, nat_lt, nat_le, List, [], ◌∷◌, ◌++◌, filter, length, Option, Some, refl, sym, ap, ◌∙◌, subst, true≢false, arith, lt-ltb}
use Rattle.std.specs.List.{AllByRecursion}
use Rattle.std.proofs.lemmas.Bool.Decides.{nat_tests}
use Rattle.std.proofs.lemmas.List.{append-nil}
use Rattle.std.proofs.lemmas.List.Elements.{filter-append}
use Rattle.cds_object.specs.declared.event.Event.{Event}
use Rattle.cds_catalog.specs.Library.{FolderMap, found}
use Rattle.cds_catalog.specs.History.{History, latest, changes_of, end_of, with_scan}
use Rattle.cds_catalog.specs.declared.change.Change.{Change}
use Rattle.cds_catalog.proofs.StepsFind.{each-weaker}
use Rattle.cds_changes.specs.declared.event_with_parent.EventWithParent.{EventWithParent}
use Rattle.cds_changes.specs.Events.{scan_events, events_between}
use Rattle.cds_changes.specs.EventsWithParents.{scan_with_parents, all_with_parents, is_after, all_after, lies_in, events_in, touches, deletes, last_touch_after, was_deleted_after}
use Rattle.cds_changes.proofs.ParentsEvents.{events_of, scan-with_parents, all-with_parents}
use Rattle.cds_changes.proofs.Within.{Lies, scan-lies}
use Rattle.cds_catalog.specs.Steps.{Standing}
use Rattle.cds_store.specs.Stands.{Stored, StandsFor}
use Rattle.cds_object.specs.Events.{update_of}

-- ---- a scan more

filter-all : (forgotten : ℕ) (item : List EventWithParent) → AllByRecursion (λ event. forgotten < update_of event) (events_of item)
    → filter (is_after forgotten) item ≡ item
filter-all forgotten [] all = refl
filter-all forgotten (n ∷ item) all =
    (λ i. cond (lt-ltb forgotten (update_of n.event) all.0 i) (n ∷ filter (is_after forgotten) item) (filter (is_after forgotten) item))
    ∙ ap (λ (l : List EventWithParent). n ∷ l) (filter-all forgotten item all.1)

above : (forgotten low high : ℕ) → forgotten ≤ low → (event : Event) → Lies low high event → forgotten < update_of event
above forgotten low high l event lies = let a = lies.above in omega (arith, l, a)

scan-kept : (history : History) (library : FolderMap) (forgotten : ℕ) → forgotten ≤ end_of history
    → filter (is_after forgotten) (scan_with_parents history.first (changes_of history.maps) (found (latest history.maps) library) (found (latest history.maps) library))
    ≡ scan_with_parents history.first (changes_of history.maps) (found (latest history.maps) library) (found (latest history.maps) library)
scan-kept history library forgotten low =
    let scan : List Change = found (latest history.maps) library in
    let before : List Change = changes_of history.maps in
    filter-all forgotten (scan_with_parents history.first before scan scan)
    (subst (AllByRecursion (λ event. forgotten < update_of event)) (sym (scan-with_parents history.first before scan scan))
    (each-weaker (Lies (history.first + length before) (history.first + length before + length scan)) (λ event. forgotten < update_of event)
    (above forgotten (history.first + length before) (history.first + length before + length scan) low)
    (scan_events history.first before scan scan) (scan-lies history.first before scan scan)))

pub kept-more : (history : History) (library : FolderMap) (forgotten : ℕ) (kept told : List EventWithParent) → forgotten ≤ end_of history
    → kept ≡ all_after history forgotten
    → told ≡ scan_with_parents history.first (changes_of history.maps) (found (latest history.maps) library) (found (latest history.maps) library)
    → kept ++ told ≡ all_after (with_scan history library) forgotten
kept-more history library forgotten kept told low is new =
    (λ i. is i ++ (new ∙ sym (scan-kept history library forgotten low)) i)
    ∙ sym (filter-append (is_after forgotten) (all_with_parents history.first history.maps)
    (scan_with_parents history.first (changes_of history.maps) (found (latest history.maps) library) (found (latest history.maps) library)))

-- a scan that found nothing
pub kept-same : (history : History) (library : FolderMap) (forgotten : ℕ) (kept : List EventWithParent) → forgotten ≤ end_of history
    → kept ≡ all_after history forgotten → [] ≡ found (latest history.maps) library
    → kept ≡ all_after (with_scan history library) forgotten
kept-same history library forgotten kept low is none =
    sym (append-nil kept) ∙ kept-more history library forgotten kept [] low is
    (ap (λ (scan : List Change). scan_with_parents history.first (changes_of history.maps) scan scan) none)

-- ---- more forgotten

filter-less : (p q : EventWithParent → Bool) → ((n : EventWithParent) → p n ≡ true → q n ≡ true) → (item : List EventWithParent) → filter p (filter q item) ≡ filter p item
filter-less p q less [] = refl
filter-less p q less (n ∷ item) = by (q n) (p n) refl refl (filter-less p q less item)
  where
    by : (a b : Bool) → q n ≡ a → p n ≡ b → filter p (filter q item) ≡ filter p item
        → filter p (cond a (n ∷ filter q item) (filter q item)) ≡ cond b (n ∷ filter p item) (filter p item)
    by true true x y r = (λ i. cond (y i) (n ∷ filter p (filter q item)) (filter p (filter q item))) ∙ ap (λ (l : List EventWithParent). n ∷ l) r
    by true false x y r = (λ i. cond (y i) (n ∷ filter p (filter q item)) (filter p (filter q item))) ∙ r
    by false true x y r = absurd (true≢false (sym (less n y) ∙ x))
    by false false x y r = r

after-less : (a b u : ℕ) → a ≤ b → nat_lt b u ≡ true → nat_lt a u ≡ true
after-less a b u l e = grind (arith, nat_tests)

pub kept-less : (history : History) (forgotten more : ℕ) (kept : List EventWithParent) → forgotten ≤ more → kept ≡ all_after history forgotten
    → filter (is_after more) kept ≡ all_after history more
kept-less history forgotten more kept l is =
    ap (filter (is_after more)) is
    ∙ filter-less (is_after more) (is_after forgotten) (λ n e. after-less forgotten more (update_of n.event) l e) (all_with_parents history.first history.maps)

-- ---- what is told of a span

lies-after : (forgotten from to u : ℕ) → forgotten ≤ from → nat_lt forgotten u ≡ false → nat_lt from u && nat_le u to ≡ false
lies-after forgotten from to u l e =
    ap (λ (b : Bool). b && nat_le u to) (let n : nat_lt from u ≡ false = grind (arith, nat_tests) in n)

told-after : (forgotten from to : ℕ) → forgotten ≤ from → (item : List EventWithParent) → events_in from to (filter (is_after forgotten) item) ≡ events_in from to item
told-after forgotten from to l [] = refl
told-after forgotten from to l (n ∷ item) = by (is_after forgotten n) refl (told-after forgotten from to l item)
  where
    by : (b : Bool) → is_after forgotten n ≡ b → events_in from to (filter (is_after forgotten) item) ≡ events_in from to item
        → events_in from to (cond b (n ∷ filter (is_after forgotten) item) (filter (is_after forgotten) item)) ≡ events_in from to (n ∷ item)
    by true e r = ap (λ (l : List Event). cond (lies_in from to n.event) (n.event ∷ l) l) r
    by false e r =
        r ∙ sym (λ i. cond (lies-after forgotten from to (update_of n.event) l e i) (n.event ∷ events_in from to item) (events_in from to item))

pub told-of-kept : (history : History) (forgotten from to : ℕ) (kept : List EventWithParent) → forgotten ≤ from → kept ≡ all_after history forgotten
    → events_in from to kept ≡ events_between history from to
told-of-kept history forgotten from to kept l is =
    ap (events_in from to) is ∙ told-after forgotten from to l (all_with_parents history.first history.maps)
    ∙ ap (filter (lies_in from to)) (all-with_parents history.first history.maps)

pub touch-after : (forgotten from to id : ℕ) → forgotten ≤ from → (before : Option ℕ) (item : List EventWithParent)
    → last_touch_after from to id before (filter (is_after forgotten) item) ≡ last_touch_after from to id before item
touch-after forgotten from to id l before [] = refl
touch-after forgotten from to id l before (n ∷ item) = by (is_after forgotten n) refl (λ o. touch-after forgotten from to id l o item)
  where
    by : (b : Bool) → is_after forgotten n ≡ b
        → ((o : Option ℕ) → last_touch_after from to id o (filter (is_after forgotten) item) ≡ last_touch_after from to id o item)
        → last_touch_after from to id before (cond b (n ∷ filter (is_after forgotten) item) (filter (is_after forgotten) item))
        ≡ last_touch_after from to id before (n ∷ item)
    by true e r = r (cond (lies_in from to n.event && touches id n) (Some (update_of n.event)) before)
    by false e r =
        r before ∙ ap (λ (b : Bool). last_touch_after from to id (cond (b && touches id n) (Some (update_of n.event)) before) item)
        (sym (lies-after forgotten from to (update_of n.event) l e))

pub deleted-after : (forgotten from to id : ℕ) → forgotten ≤ from → (before : Bool) (item : List EventWithParent)
    → was_deleted_after from to id before (filter (is_after forgotten) item) ≡ was_deleted_after from to id before item
deleted-after forgotten from to id l before [] = refl
deleted-after forgotten from to id l before (n ∷ item) = by (is_after forgotten n) refl (λ o. deleted-after forgotten from to id l o item)
  where
    by : (b : Bool) → is_after forgotten n ≡ b
        → ((o : Bool) → was_deleted_after from to id o (filter (is_after forgotten) item) ≡ was_deleted_after from to id o item)
        → was_deleted_after from to id before (cond b (n ∷ filter (is_after forgotten) item) (filter (is_after forgotten) item))
        ≡ was_deleted_after from to id before (n ∷ item)
    by true e r = r (lies_in from to n.event && deletes id n.event || before)
    by false e r =
        r before ∙ ap (λ (b : Bool). was_deleted_after from to id (b && deletes id n.event || before) item)
        (sym (lies-after forgotten from to (update_of n.event) l e))

-- ---- a store

-- a store that forgets more stands for what it stood for
pub forgets : (store : Stored) (history : History) (to more : ℕ) (kept : List EventWithParent) → StandsFor store history → to ≤ store.standing.number
    → more ≡ max store.forgotten to → kept ≡ filter (is_after more) store.kept
    → StandsFor (record { standing = store.standing; forgotten = more; kept = kept }) history
forgets store history to more kept stands most is left =
    let number = ap (λ (s : Standing). s.number) stands.1 in
    let low = stands.2 in (
      stands.0,
      stands.1,
      omega (arith, number, low, most, is),
      left ∙ kept-less history store.forgotten more store.kept (omega (arith, is)) stands.3,
    )

pub changes-told : (store : Stored) (history : History) (from to : ℕ) (out new events : List Event) → StandsFor store history → store.forgotten ≤ from
    → new ≡ out ++ events → events ≡ events_in from to store.kept → new ≡ out ++ events_between history from to
changes-told store history from to out new events stands low is told =
    is ∙ ap (λ (l : List Event). out ++ l) (told ∙ told-of-kept history store.forgotten from to store.kept low stands.3)
