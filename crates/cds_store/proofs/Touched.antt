-- The entries of a map by ids, and what they tell of each id.
use Rattle.std.proofs.Common.{◌≡◌, ◌+◌, ◌≤◌, ◌<◌, ℕ, zero, suc, Bool, true, false, cond, not, nat_lt, nat_cmp, List, [], ◌∷◌, ◌++◌, map, filter, is_some, Option, Some, None, Less, refl, sym, ap, ◌∙◌, true≢false, arith}
use Rattle.std.specs.List.{AllByRecursion, filter_map, cons_option, range_with_len, count_by}
use Rattle.std.specs.List.Sorted.{IsStrictlySortedBy}
use Rattle.std.specs.Option.{option_map}
use Rattle.std.specs.Map.{lookup}
use Rattle.std.specs.BTreeMap.{is_at}
use Rattle.std.proofs.lemmas.Bool.Decides.{nat_tests}
use Rattle.cds_catalog.specs.History.{History, changes_of, is_addition}
use Rattle.cds_catalog.specs.declared.change.Change.{Change}
use Rattle.cds_changes.specs.declared.event_with_parent.EventWithParent.{EventWithParent}
use Rattle.cds_changes.specs.Containers.{last_touch, was_deleted, changes_to, containers_between}
use Rattle.cds_changes.specs.EventsWithParents.{all_with_parents, last_touch_in, was_deleted_in, containers_in}
use Rattle.cds_changes.proofs.ParentsContainers.{tell-containers, touch-drawn}
use Rattle.cds_store.specs.Stands.{Stored, StandsFor}
use Rattle.cds_store.proofs.KeptEvents.{touch-after, deleted-after}

abbrev pub Pairs : Type 0
Pairs = List (ℕ × ℕ)

-- what is told of an id by the entries
abbrev pub told_by_id : (ℕ → Bool) → (ℕ → Option ℕ) → ℕ → Option (ℕ × ℕ)
told_by_id deleted touched id = cond (deleted id) None (option_map (λ number. (id, number)) (touched id))

abbrev pub looked_up : Pairs → ℕ → Option ℕ
looked_up es id = lookup (is_at (nat_cmp id)) es

less-is : (x y : ℕ) → nat_cmp x y ≡ Less → x < y
less-is x y e = grind (arith, nat_tests)

at-self : (x : ℕ) → is_at (nat_cmp x) x ≡ true
at-self x = grind (arith, nat_tests)

at-after : (x y : ℕ) → y < x → is_at (nat_cmp x) y ≡ false
at-after x y l = grind (arith, nat_tests)

at-before : (x y : ℕ) → x < y → is_at (nat_cmp x) y ≡ false
at-before x y l = grind (arith, nat_tests)

-- entries in ascending order, none below a number
abbrev pub From : ℕ → Pairs → Type 0
From low es = AllByRecursion (λ (e : ℕ × ℕ). low ≤ e.0) es

abbrev pub Rising : Pairs → Type 0
Rising [] = Unit {0}
Rising (e ∷ es) = AllByRecursion (λ (f : ℕ × ℕ). e.0 < f.0) es × Rising es

pub rising-keys : (es : Pairs) → IsStrictlySortedBy nat_cmp (map (λ (e : ℕ × ℕ). e.0) es) → Rising es
unfolding IsStrictlySortedBy
rising-keys [] sorted = tt
rising-keys (e ∷ es) sorted = (each es sorted.0, rising-keys es sorted.1)
  where
    each : (fs : Pairs) → AllByRecursion (λ y. nat_cmp e.0 y ≡ Less) (map (λ (f : ℕ × ℕ). f.0) fs) → AllByRecursion (λ (f : ℕ × ℕ). e.0 < f.0) fs
    each [] all = tt
    each (f ∷ fs) all = (less-is e.0 f.0 all.0, each fs all.1)

absent : (es : Pairs) (id : ℕ) → AllByRecursion (λ (e : ℕ × ℕ). id < e.0) es → looked_up es id ≡ None
absent [] id all = refl
absent (e ∷ es) id all = (λ i. cond (at-before id e.0 all.0 i) (Some e.1) (looked_up es id)) ∙ absent es id all.1

range-agree : (f g : ℕ → Option (ℕ × ℕ)) (low n : ℕ) → ((id : ℕ) → low ≤ id → f id ≡ g id)
    → filter_map f (range_with_len low n) ≡ filter_map g (range_with_len low n)
range-agree f g low zero same = refl
range-agree f g low (suc n) same =
    (λ i. cons_option (same low (omega arith) i) (filter_map f (range_with_len (low + 1) n)))
    ∙ ap (cons_option (g low)) (range-agree f g (low + 1) n (λ id l. same id (omega (arith, l))))

range-none : (f : ℕ → Option (ℕ × ℕ)) (low n : ℕ) → ((id : ℕ) → f id ≡ None) → filter_map f (range_with_len low n) ≡ []
range-none f low zero none = refl
range-none f low (suc n) none = (λ i. cons_option (none low i) (filter_map f (range_with_len (low + 1) n))) ∙ range-none f (low + 1) n none

each-more : (P Q : ℕ × ℕ → Type 0) → ((e : ℕ × ℕ) → P e → Q e) → (es : Pairs) → AllByRecursion P es → AllByRecursion Q es
each-more P Q f [] all = tt
each-more P Q f (e ∷ es) all = (f e all.0, each-more P Q f es all.1)

nothing-told : (deleted : Bool) (id : ℕ) → (let named : ℕ → ℕ × ℕ = λ number. (id, number) in cond deleted None (option_map named None)) ≡ None
nothing-told true id = refl
nothing-told false id = refl

-- entries in ascending order are what is told of each number
pub entries-told : (deleted : ℕ → Bool) (es : Pairs) (low n : ℕ) → Rising es → From low es → AllByRecursion (λ (e : ℕ × ℕ). e.0 < low + n) es
    → filter (λ (e : ℕ × ℕ). not (deleted e.0)) es ≡ filter_map (told_by_id deleted (looked_up es)) (range_with_len low n)
entries-told deleted [] low n rising from below = sym (range-none (told_by_id deleted (looked_up [])) low n (λ id. nothing-told (deleted id) id))
entries-told deleted (e ∷ es) low zero rising from below = absurd (let a = from.0 in let b = below.0 in omega (arith, a, b))
entries-told deleted (e ∷ es) low (suc n) rising from below = by (nat_lt low e.0) refl
    (λ here. entries-told deleted es (low + 1) n rising.1
    (each-more (λ f. e.0 < f.0) (λ f. low + 1 ≤ f.0) (λ f l. omega (arith, l, here)) es rising.0)
    (each-more (λ f. f.0 < low + suc n) (λ f. f.0 < low + 1 + n) (λ f l. omega (arith, l)) es below.1))
    (λ l. entries-told deleted (e ∷ es) (low + 1) n rising
    (omega (arith, l), each-more (λ f. e.0 < f.0) (λ f. low + 1 ≤ f.0) (λ f k. omega (arith, l, k)) es rising.0)
    (each-more (λ f. f.0 < low + suc n) (λ f. f.0 < low + 1 + n) (λ f k. omega (arith, k)) (e ∷ es) below))
  where
    told : ℕ → Option (ℕ × ℕ)
    told = told_by_id deleted (looked_up (e ∷ es))

    past : (id : ℕ) → e.0 < id → looked_up (e ∷ es) id ≡ looked_up es id
    past id l = λ i. cond (at-after id e.0 l i) (Some e.1) (looked_up es id)

    here-told : low ≡ e.0 → told low ≡ cond (deleted e.0) None (Some e)
    here-told is = ap told is
        ∙ ap (λ (o : Option ℕ). cond (deleted e.0) None (option_map (λ (number : ℕ). (e.0, number)) o)) (λ i. cond (at-self e.0 i) (Some e.1) (looked_up es e.0))

    kept : (b : Bool) (rest : Pairs) → cond (not b) (e ∷ rest) rest ≡ cons_option (cond b None (Some e)) rest
    kept true rest = refl
    kept false rest = refl

    by : (b : Bool) → nat_lt low e.0 ≡ b
        → (low ≡ e.0 → filter (λ (e : ℕ × ℕ). not (deleted e.0)) es ≡ filter_map (told_by_id deleted (looked_up es)) (range_with_len (low + 1) n))
        → (low < e.0 → filter (λ (e : ℕ × ℕ). not (deleted e.0)) (e ∷ es) ≡ filter_map told (range_with_len (low + 1) n))
        → filter (λ (e : ℕ × ℕ). not (deleted e.0)) (e ∷ es) ≡ cons_option (told low) (filter_map told (range_with_len (low + 1) n))
    by true x here later =
        let l : low < e.0 = grind (arith, nat_tests) in
        later l ∙ ap (λ (o : Option (ℕ × ℕ)). cons_option o (filter_map told (range_with_len (low + 1) n)))
        (sym (ap (λ (o : Option ℕ). cond (deleted low) None (option_map (λ (number : ℕ). (low, number)) o))
        (absent (e ∷ es) low (l, each-more (λ f. e.0 < f.0) (λ f. low < f.0) (λ f k. omega (arith, l, k)) es rising.0)) ∙ nothing-told (deleted low) low))
    by false x here later =
        let a = from.0 in
        let is : low ≡ e.0 = grind (arith, nat_tests, a) in
        kept (deleted e.0) (filter (λ (e : ℕ × ℕ). not (deleted e.0)) es)
        ∙ ap (cons_option (cond (deleted e.0) None (Some e))) (here is
        ∙ range-agree (told_by_id deleted (looked_up es)) told (low + 1) n
        (λ id l. ap (λ (o : Option ℕ). cond (deleted id) None (option_map (λ (number : ℕ). (id, number)) o)) (sym (past id (omega (arith, is, l))))))
        ∙ ap (λ (o : Option (ℕ × ℕ)). cons_option o (filter_map told (range_with_len (low + 1) n))) (sym (here-told is))

-- an entry is looked up
looked-up-some : (es : Pairs) → Rising es → AllByRecursion (λ (e : ℕ × ℕ). looked_up es e.0 ≡ Some e.1) es
looked-up-some [] rising = tt
looked-up-some (e ∷ es) rising = (
  (λ i. cond (at-self e.0 i) (Some e.1) (looked_up es e.0)),
  both es rising.0 (looked-up-some es rising.1),
)
  where
    both : (fs : Pairs) → AllByRecursion (λ (f : ℕ × ℕ). e.0 < f.0) fs → AllByRecursion (λ (f : ℕ × ℕ). looked_up es f.0 ≡ Some f.1) fs
        → AllByRecursion (λ (f : ℕ × ℕ). looked_up (e ∷ es) f.0 ≡ Some f.1) fs
    both [] a b = tt
    both (f ∷ fs) a b = ((λ i. cond (at-after f.0 e.0 a.0 i) (Some e.1) (looked_up es f.0)) ∙ b.0, both fs a.1 b.1)

-- where nothing is told from a number on, all entries are below it
entries-below : (es : Pairs) (n : ℕ) → Rising es → ((id : ℕ) → n ≤ id → looked_up es id ≡ None) → AllByRecursion (λ (e : ℕ × ℕ). e.0 < n) es
entries-below es n rising none =
    each-more (λ e. looked_up es e.0 ≡ Some e.1) (λ e. e.0 < n) (λ e found. by e (nat_lt e.0 n) refl found) es (looked-up-some es rising)
  where
    by : (e : ℕ × ℕ) (b : Bool) → nat_lt e.0 n ≡ b → looked_up es e.0 ≡ Some e.1 → e.0 < n
    by e true x found = grind (arith, nat_tests)
    by e false x found = absurd (true≢false (sym (ap is_some (sym (none e.0 (grind (arith, nat_tests))) ∙ found))))

all-from : (es : Pairs) → From 0 es
all-from [] = tt
all-from (e ∷ es) = (omega arith, all-from es)

below-more : (es : Pairs) (n : ℕ) → AllByRecursion (λ (e : ℕ × ℕ). e.0 < n) es → AllByRecursion (λ (e : ℕ × ℕ). e.0 < 0 + n) es
below-more es n = each-more (λ e. e.0 < n) (λ e. e.0 < 0 + n) (λ e l. omega (arith, l)) es

-- what is left of the entries is what is told of a span
pub containers-told : (es : Pairs) (deleted : ℕ → Bool) (from to count : ℕ) (item : List EventWithParent) (found : Pairs)
    → IsStrictlySortedBy nat_cmp (map (λ (e : ℕ × ℕ). e.0) es)
    → ((id : ℕ) → looked_up es id ≡ last_touch_in from to id item) → ((id : ℕ) → deleted id ≡ was_deleted_in from to id item)
    → ((id : ℕ) → count ≤ id → last_touch_in from to id item ≡ None)
    → found ≡ filter (λ (e : ℕ × ℕ). not (deleted e.0)) es → found ≡ containers_in from to count item
containers-told es deleted from to count item found sorted touches goes none is =
    let rising = rising-keys es sorted in
    is ∙ entries-told deleted es 0 count rising (all-from es)
    (below-more es count (entries-below es count rising (λ id l. touches id ∙ none id l)))
    ∙ range-agree (told_by_id deleted (looked_up es)) (told_by_id (λ id. was_deleted_in from to id item) (λ id. last_touch_in from to id item)) 0 count
    (λ id l i. cond (goes id i) None (option_map (λ (number : ℕ). (id, number)) (touches id i)))

-- what the kept events tell are the containers of the span
pub containers-of-kept : (store : Stored) (history : History) (from to : ℕ) (out new containers : Pairs) → StandsFor store history → store.forgotten ≤ from
    → new ≡ out ++ containers
    → ((count : ℕ) → ((id : ℕ) → count ≤ id → last_touch_in from to id store.kept ≡ None) → containers ≡ containers_in from to count store.kept)
    → new ≡ out ++ containers_between history from to
containers-of-kept store history from to out new containers stands low is told =
    is ∙ ap (λ (l : Pairs). out ++ l) (told count none
    ∙ range-agree (told_by_id (λ id. was_deleted_in from to id store.kept) (λ id. last_touch_in from to id store.kept))
    (told_by_id (λ id. was_deleted history.first from id changes) (λ id. last_touch history.first from id changes)) 0 count
    (λ id l i. cond (deleted id i) None (option_map (λ (number : ℕ). (id, number)) (touched id i))))
  where
    changes : List Change
    changes = changes_to history.first to (changes_of history.maps)

    count : ℕ
    count = count_by is_addition changes + 1

    touched : (id : ℕ) → last_touch_in from to id store.kept ≡ last_touch history.first from id changes
    touched id = ap (last_touch_in from to id) stands.3 ∙ touch-after store.forgotten from to id low None (all_with_parents history.first history.maps)
        ∙ (tell-containers history from to id).0

    deleted : (id : ℕ) → was_deleted_in from to id store.kept ≡ was_deleted history.first from id changes
    deleted id = ap (was_deleted_in from to id) stands.3 ∙ deleted-after store.forgotten from to id low false (all_with_parents history.first history.maps)
        ∙ (tell-containers history from to id).1

    none : (id : ℕ) → count ≤ id → last_touch_in from to id store.kept ≡ None
    none id l = touched id ∙ touch-drawn history.first from id changes (omega (arith, l))
