-- The events of a history with their parents tell which containers a span touched.
use Rattle.std.proofs.Common.{◌≡◌, ◌+◌, ◌≤◌, ◌<◌, ℕ, Bool, true, false, cond, ◌&&◌, ◌||◌, not, nat_eq, nat_lt, nat_le, List, [], ◌∷◌, ◌++◌, map, length, Option, Some, None, refl, sym, ap, ◌∙◌, arith, lt-ltb, le-ltb, le-leb, leb-true, leb-false, ne_eqb}
use Rattle.std.specs.List.{count_by}
use Rattle.cds_object.specs.Object.{is_folder}
use Rattle.cds_object.specs.declared.content.Content.TheVariants.{Folder, Track}
use Rattle.cds_object.specs.Path.{parent_of}
use Rattle.cds_catalog.specs.Library.{FolderMap, found}
use Rattle.cds_catalog.specs.History.{History, latest, changes_of, place_of, is_addition}
use Rattle.cds_catalog.specs.Catalog.{id_of}
use Rattle.cds_catalog.specs.declared.change.Change.{Change}
use Rattle.cds_catalog.specs.declared.change.Change.TheVariants.{Deletion, Addition, Modification}
use Rattle.cds_changes.specs.declared.event_with_parent.EventWithParent.{EventWithParent}
use Rattle.cds_changes.specs.Events.{event_of, done_events, heads_done, is_in_subtree}
use Rattle.cds_changes.specs.Containers.{adds_container, is_in_container, deletes_id, last_touch, was_deleted, changes_to}
use Rattle.cds_changes.specs.EventsWithParents.{change_with_parent, without_parent, change_with_parents, scan_with_parents, all_with_parents, lies_in, touches, deletes, last_touch_after, last_touch_in, was_deleted_after, was_deleted_in}
use Rattle.cds_catalog.proofs.StepsFind.{count_by-cons}
use Rattle.cds_catalog.proofs.StepsIds.{id_drawn}
use Rattle.cds_changes.proofs.Numbers.{numbered}
use Rattle.cds_object.specs.Events.{update_of}

-- ---- lists one behind the other

last_touch-append : (from to id : ℕ) (before : Option ℕ) (older newer : List EventWithParent)
    → last_touch_after from to id before (older ++ newer) ≡ last_touch_after from to id (last_touch_after from to id before older) newer
last_touch-append from to id before [] newer = refl
last_touch-append from to id before (item ∷ older) newer =
    last_touch-append from to id (cond (lies_in from to item.event && touches id item) (Some (update_of item.event)) before) older newer

was_deleted-append : (from to id : ℕ) (before : Bool) (older newer : List EventWithParent)
    → was_deleted_after from to id before (older ++ newer) ≡ was_deleted_after from to id (was_deleted_after from to id before older) newer
was_deleted-append from to id before [] newer = refl
was_deleted-append from to id before (item ∷ older) newer =
    was_deleted-append from to id (lies_in from to item.event && deletes id item.event || before) older newer

-- ---- one change

and-false : (b : Bool) → b && false ≡ false
and-false true = refl
and-false false = refl

done-touch : (from to id : ℕ) (before : Option ℕ) (number : ℕ) (changes heads : List Change)
    → last_touch_after from to id before (map without_parent (done_events number changes heads)) ≡ before
done-touch from to id before number changes [] = refl
done-touch from to id before number changes (head ∷ heads) =
    ap (λ (b : Bool). last_touch_after from to id (cond b (Some number) before) (map without_parent (done_events number changes heads)))
    (and-false (nat_lt from number && nat_le number to))
    ∙ done-touch from to id before number changes heads

done-deleted : (from to id : ℕ) (before : Bool) (number : ℕ) (changes heads : List Change)
    → was_deleted_after from to id before (map without_parent (done_events number changes heads)) ≡ before
done-deleted from to id before number changes [] = refl
done-deleted from to id before number changes (head ∷ heads) =
    ap (λ (b : Bool). was_deleted_after from to id (b || before) (map without_parent (done_events number changes heads)))
    (and-false (nat_lt from number && nat_le number to))
    ∙ done-deleted from to id before number changes heads

-- a change's event touches the containers that the change adds or names, and deletes what the change deletes
event-touches : (number id : ℕ) (older : List Change) (change : Change) (st : Bool)
    → touches id (record { event = event_of number older change st; parent = Some (id_of older (parent_of (place_of change))) })
    ≡ adds_container id older change || is_in_container id older change
event-touches number id older (Deletion path) st = refl
event-touches number id older (Addition path (Folder title)) st = refl
event-touches number id older (Addition path (Track track)) st = refl
event-touches number id older (Modification path content) st = refl

event-deletes : (number id : ℕ) (older : List Change) (change : Change) (st : Bool)
    → deletes id (event_of number older change st) ≡ deletes_id id older change
event-deletes number id older (Deletion path) st = refl
event-deletes number id older (Addition path content) st = refl
event-deletes number id older (Modification path content) st = refl

abbrev between : ℕ → ℕ → ℕ → Bool
between from to number = nat_lt from number && nat_le number to

event-lies : (from to number : ℕ) (older : List Change) (change : Change) (st : Bool)
    → lies_in from to (event_of number older change st) ≡ between from to number
event-lies from to number older change st = ap (between from to) (numbered number older change st)

change-touch : (from to id first : ℕ) (before : Option ℕ) (scan : List Change) (change : Change) (older : List Change)
    → last_touch_after from to id before (change_with_parents first scan change older)
    ≡ cond (between from to (first + length (change ∷ older)) && (adds_container id older change || is_in_container id older change))
    (Some (first + length (change ∷ older))) before
change-touch from to id first before scan change older =
    done-touch from to id _ (first + length (change ∷ older)) (change ∷ older) (heads_done scan change)
    ∙ ap (λ (b : Bool). cond (b && touches id (change_with_parent first scan change older)) (Some (update_of (change_with_parent first scan change older).event)) before)
    (event-lies from to (first + length (change ∷ older)) older change (is_in_subtree scan change))
    ∙ ap (λ (b : Bool). cond (between from to (first + length (change ∷ older)) && b) (Some (update_of (change_with_parent first scan change older).event)) before)
    (event-touches (first + length (change ∷ older)) id older change (is_in_subtree scan change))
    ∙ ap (λ (n : ℕ). cond (between from to (first + length (change ∷ older)) && (adds_container id older change || is_in_container id older change)) (Some n) before)
    (numbered (first + length (change ∷ older)) older change (is_in_subtree scan change))

change-deleted : (from to id first : ℕ) (before : Bool) (scan : List Change) (change : Change) (older : List Change)
    → was_deleted_after from to id before (change_with_parents first scan change older)
    ≡ between from to (first + length (change ∷ older)) && deletes_id id older change || before
change-deleted from to id first before scan change older =
    done-deleted from to id _ (first + length (change ∷ older)) (change ∷ older) (heads_done scan change)
    ∙ ap (λ (b : Bool). b && deletes id (change_with_parent first scan change older).event || before)
    (event-lies from to (first + length (change ∷ older)) older change (is_in_subtree scan change))
    ∙ ap (λ (b : Bool). between from to (first + length (change ∷ older)) && b || before)
    (event-deletes (first + length (change ∷ older)) id older change (is_in_subtree scan change))

-- ---- one more change, by the definitions

-- what is told of the changes up to a number
abbrev touched : ℕ → ℕ → ℕ → ℕ → List Change → Option ℕ
touched first from to id changes = last_touch first from id (changes_to first to changes)

abbrev deleted : ℕ → ℕ → ℕ → ℕ → List Change → Bool
deleted first from to id changes = was_deleted first from id (changes_to first to changes)

to-all : (first to : ℕ) (changes : List Change) → first + length changes ≤ to → changes_to first to changes ≡ changes
to-all first to [] l = refl
to-all first to (change ∷ older) l = ap (λ (b : Bool). cond b (change ∷ older) (changes_to first to older)) (le-leb (first + length (change ∷ older)) to l)

touch-none : (first from id : ℕ) (changes : List Change) → first + length changes ≤ from → last_touch first from id changes ≡ None
touch-none first from id [] l = refl
touch-none first from id (change ∷ older) l = λ i. cond (le-leb (first + length (change ∷ older)) from l i) None
    (cond (adds_container id older change) (Some (first + length (change ∷ older)))
    (cond (is_in_container id older change) (Some (first + length (change ∷ older))) (last_touch first from id older)))

deleted-none : (first from id : ℕ) (changes : List Change) → first + length changes ≤ from → was_deleted first from id changes ≡ false
deleted-none first from id [] l = refl
deleted-none first from id (change ∷ older) l = λ i. cond (le-leb (first + length (change ∷ older)) from l i) false
    (cond (deletes_id id older change) true (was_deleted first from id older))

or-cond : {A : Type 0} (a b : Bool) (x y : A) → cond a x (cond b x y) ≡ cond (a || b) x y
or-cond true b x y = refl
or-cond false true x y = refl
or-cond false false x y = refl

true-cond : (a b : Bool) → cond a true b ≡ a || b
true-cond true b = refl
true-cond false b = refl

-- a change above the span's end, one at or below its beginning, and one within
cut-touch : (a b : Bool) (n : ℕ) (t u : Bool) (all older before : Option ℕ)
    → (a ≡ true → all ≡ before) → (a ≡ true → b ≡ true → before ≡ None)
    → cond a (cond b None (cond t (Some n) (cond u (Some n) all))) older ≡ cond (not b && a && (t || u)) (Some n) (cond a before older)
cut-touch true true n t u all older before same none = sym (none refl refl)
cut-touch true false n t u all older before same none = or-cond t u (Some n) all ∙ ap (cond (t || u) (Some n)) (same refl)
cut-touch false true n t u all older before same none = refl
cut-touch false false n t u all older before same none = refl

cut-deleted : (a b d : Bool) (all older before : Bool)
    → (a ≡ true → all ≡ before) → (a ≡ true → b ≡ true → before ≡ false)
    → cond a (cond b false (cond d true all)) older ≡ not b && a && d || cond a before older
cut-deleted true true d all older before same none = sym (none refl refl)
cut-deleted true false d all older before same none = true-cond d all ∙ ap (λ (x : Bool). d || x) (same refl)
cut-deleted false true d all older before same none = refl
cut-deleted false false d all older before same none = refl

-- what is told of the older changes, where the next one is not past the end
older-to : (first to : ℕ) (change : Change) (older : List Change) → nat_le (first + length (change ∷ older)) to ≡ true
    → changes_to first to older ≡ older
older-to first to change older e = to-all first to older (let l = leb-true (first + length (change ∷ older)) to e in omega (arith, l))

lt-not-le : (a b : ℕ) → nat_lt a b ≡ not (nat_le b a)
lt-not-le a b = by (nat_le b a) refl
  where
    by : (c : Bool) → nat_le b a ≡ c → nat_lt a b ≡ not c
    by true e = le-ltb a b (leb-true b a e)
    by false e = lt-ltb a b (leb-false b a e)

choose : {A : Type 0} (b : Bool) (x y z : A) → (b ≡ true → y ≡ x) → cond b x z ≡ cond b y z
choose true x y z e = sym (e refl)
choose false x y z e = refl

one-touched : (first from to id : ℕ) (change : Change) (older : List Change)
    → touched first from to id (change ∷ older)
    ≡ cond (between from to (first + length (change ∷ older)) && (adds_container id older change || is_in_container id older change))
    (Some (first + length (change ∷ older))) (touched first from to id older)
one-touched first from to id change older =
    let number : ℕ = first + length (change ∷ older) in
    within (nat_le (first + length (change ∷ older)) to)
    ∙ cut-touch (nat_le number to) (nat_le number from) number (adds_container id older change) (is_in_container id older change)
    (last_touch first from id older) (touched first from to id older) (touched first from to id older)
    (λ e. ap (last_touch first from id) (sym (older-to first to change older e)))
    (λ e k. ap (last_touch first from id) (older-to first to change older e)
    ∙ touch-none first from id older (let l = leb-true (first + length (change ∷ older)) from k in omega (arith, l)))
    ∙ ap (λ (o : Option ℕ). cond (not (nat_le number from) && nat_le number to && (adds_container id older change || is_in_container id older change)) (Some number) o)
    (same (nat_le number to))
    ∙ ap (λ (b : Bool). cond (b && nat_le number to && (adds_container id older change || is_in_container id older change)) (Some number) (touched first from to id older))
    (sym (lt-not-le from number))
  where
    within : (b : Bool) → last_touch first from id (cond b (change ∷ older) (changes_to first to older))
        ≡ cond b (last_touch first from id (change ∷ older)) (touched first from to id older)
    within true = refl
    within false = refl

    same : (b : Bool) → cond b (touched first from to id older) (touched first from to id older) ≡ touched first from to id older
    same true = refl
    same false = refl

one-deleted : (first from to id : ℕ) (change : Change) (older : List Change)
    → deleted first from to id (change ∷ older)
    ≡ between from to (first + length (change ∷ older)) && deletes_id id older change || deleted first from to id older
one-deleted first from to id change older =
    let number : ℕ = first + length (change ∷ older) in
    within (nat_le (first + length (change ∷ older)) to)
    ∙ cut-deleted (nat_le number to) (nat_le number from) (deletes_id id older change)
    (was_deleted first from id older) (deleted first from to id older) (deleted first from to id older)
    (λ e. ap (was_deleted first from id) (sym (older-to first to change older e)))
    (λ e k. ap (was_deleted first from id) (older-to first to change older e)
    ∙ deleted-none first from id older (let l = leb-true (first + length (change ∷ older)) from k in omega (arith, l)))
    ∙ ap (λ (o : Bool). not (nat_le number from) && nat_le number to && deletes_id id older change || o) (same (nat_le number to))
    ∙ ap (λ (b : Bool). b && nat_le number to && deletes_id id older change || deleted first from to id older) (sym (lt-not-le from number))
  where
    within : (b : Bool) → was_deleted first from id (cond b (change ∷ older) (changes_to first to older))
        ≡ cond b (was_deleted first from id (change ∷ older)) (deleted first from to id older)
    within true = refl
    within false = refl

    same : (b : Bool) → cond b (deleted first from to id older) (deleted first from to id older) ≡ deleted first from to id older
    same true = refl
    same false = refl

-- ---- a scan, and a history

scan-touched : (first from to id : ℕ) (before scan part : List Change)
    → last_touch_after from to id (touched first from to id before) (scan_with_parents first before scan part) ≡ touched first from to id (part ++ before)
scan-touched first from to id before scan [] = refl
scan-touched first from to id before scan (change ∷ earlier) =
    last_touch-append from to id (touched first from to id before) (scan_with_parents first before scan earlier) (change_with_parents first scan change (earlier ++ before))
    ∙ ap (λ (o : Option ℕ). last_touch_after from to id o (change_with_parents first scan change (earlier ++ before))) (scan-touched first from to id before scan earlier)
    ∙ change-touch from to id first (touched first from to id (earlier ++ before)) scan change (earlier ++ before)
    ∙ sym (one-touched first from to id change (earlier ++ before))

scan-deleted : (first from to id : ℕ) (before scan part : List Change)
    → was_deleted_after from to id (deleted first from to id before) (scan_with_parents first before scan part) ≡ deleted first from to id (part ++ before)
scan-deleted first from to id before scan [] = refl
scan-deleted first from to id before scan (change ∷ earlier) =
    was_deleted-append from to id (deleted first from to id before) (scan_with_parents first before scan earlier) (change_with_parents first scan change (earlier ++ before))
    ∙ ap (λ (o : Bool). was_deleted_after from to id o (change_with_parents first scan change (earlier ++ before))) (scan-deleted first from to id before scan earlier)
    ∙ change-deleted from to id first (deleted first from to id (earlier ++ before)) scan change (earlier ++ before)
    ∙ sym (one-deleted first from to id change (earlier ++ before))

all-touched : (first from to id : ℕ) (maps : List FolderMap) → last_touch_in from to id (all_with_parents first maps) ≡ touched first from to id (changes_of maps)
all-touched first from to id [] = refl
all-touched first from to id (library ∷ older) =
    last_touch-append from to id None (all_with_parents first older) (scan_with_parents first (changes_of older) (found (latest older) library) (found (latest older) library))
    ∙ ap (λ (o : Option ℕ). last_touch_after from to id o (scan_with_parents first (changes_of older) (found (latest older) library) (found (latest older) library))) (all-touched first from to id older)
    ∙ scan-touched first from to id (changes_of older) (found (latest older) library) (found (latest older) library)

all-deleted : (first from to id : ℕ) (maps : List FolderMap) → was_deleted_in from to id (all_with_parents first maps) ≡ deleted first from to id (changes_of maps)
all-deleted first from to id [] = refl
all-deleted first from to id (library ∷ older) =
    was_deleted-append from to id false (all_with_parents first older) (scan_with_parents first (changes_of older) (found (latest older) library) (found (latest older) library))
    ∙ ap (λ (o : Bool). was_deleted_after from to id o (scan_with_parents first (changes_of older) (found (latest older) library) (found (latest older) library))) (all-deleted first from to id older)
    ∙ scan-deleted first from to id (changes_of older) (found (latest older) library) (found (latest older) library)

pub tell-containers : (history : History) (from to id : ℕ) →
    (last_touch_in from to id (all_with_parents history.first history.maps) ≡ last_touch history.first from id (changes_to history.first to (changes_of history.maps)))
    × (was_deleted_in from to id (all_with_parents history.first history.maps) ≡ was_deleted history.first from id (changes_to history.first to (changes_of history.maps)))
tell-containers history from to id = (all-touched history.first from to id history.maps, all-deleted history.first from to id history.maps)

-- ---- ids that were not drawn

no-eq : (a b : ℕ) → a < b → nat_eq a b ≡ false
no-eq a b l = ne_eqb a b (λ e. omega (arith, l, e))

not-added : (id : ℕ) (older : List Change) (change : Change) → count_by is_addition (change ∷ older) < id → adds_container id older change ≡ false
not-added id older (Deletion path) l = refl
not-added id older (Addition path content) l =
    let drawn = id_drawn (Addition path content ∷ older) path in
    ap (λ (b : Bool). is_folder content && b) (no-eq (id_of (Addition path content ∷ older) path) id (omega (arith, drawn, l)))
    ∙ and-false (is_folder content)
not-added id older (Modification path content) l = refl

-- no container is touched whose id was not drawn
pub touch-drawn : (first from id : ℕ) (changes : List Change) → count_by is_addition changes < id → last_touch first from id changes ≡ None
touch-drawn first from id [] l = refl
touch-drawn first from id (change ∷ older) l =
    by (nat_le (first + length (change ∷ older)) from) (touch-drawn first from id older (omega (arith, fewer, l)))
  where
    fewer : count_by is_addition older ≤ count_by is_addition (change ∷ older)
    fewer = let one = count_by-cons is_addition change older in omega (arith, one)

    drawn : id_of older (parent_of (place_of change)) < id
    drawn = let d = id_drawn older (parent_of (place_of change)) in omega (arith, d, fewer, l)

    rest : last_touch first from id older ≡ None → cond (adds_container id older change) (Some (first + length (change ∷ older)))
        (cond (is_in_container id older change) (Some (first + length (change ∷ older))) (last_touch first from id older)) ≡ None
    rest r = (λ i. cond (not-added id older change l i) (Some (first + length (change ∷ older)))
        (cond (no-eq (id_of older (parent_of (place_of change))) id drawn i) (Some (first + length (change ∷ older))) (last_touch first from id older)))
        ∙ r

    by : (b : Bool) → last_touch first from id older ≡ None → cond b None (cond (adds_container id older change) (Some (first + length (change ∷ older)))
        (cond (is_in_container id older change) (Some (first + length (change ∷ older))) (last_touch first from id older))) ≡ None
    by true r = refl
    by false r = rest r
