-- The containers of which no page was asked, and those of which pages were.
use Rattle.std.proofs.Common.{◌≡◌, ℕ, zero, suc, ◌+◌, ◌/◌, List, [], ◌∷◌, length, map, Bool, true, false, cond, ◌||◌, nat_eq, refl, ap, sym, ◌∙◌, arith, Option, Some, None}
use Rattle.std.specs.Prelude.{max, MatchOption}
use Rattle.std.specs.List.{AllByRecursion, filter_map, cons_option, list_any, sum_by}
use Rattle.std.specs.Option.{option_map, option_eq}
use Rattle.std.proofs.lemmas.Bool.{eqb-true, eq-eqb, ne_eqb, true≢false}
use Rattle.std.proofs.lemmas.List.Sums.{sum_by-cons}
use Rattle.cds_object.specs.Object.{ObjectRow}
use Rattle.cds_object.specs.Tree.{is_child_of}
use Rattle.cds_object.specs.declared.row.Trackers.{Trackers}
use Rattle.cds_load.specs.Loads.{pages_for}
use Rattle.cds_load.specs.Stages.{Waiting, waiting_of}
use Rattle.cds_load.specs.Attempts.{unasked}
use Rattle.cds_load.proofs.Merge.{Rises, KeepsKey}
use Rattle.cds_load.proofs.Trees.{id_of, all-map}
use Rattle.cds_load.proofs.Advance.{waiting_id, waiting-keeps}
use Rattle.cds_load.proofs.Placed.{is_among, or-left, or-right, filter_map-equal}

-- whether an id is that of a container of which a page was asked
abbrev pub was_asked : ℕ → List Waiting → Bool
was_asked id asked = list_any (λ (w : Waiting). nat_eq id w.id) asked

-- so many pages of a container after others
abbrev pub times : ℕ → Waiting → List Waiting → List Waiting
times zero w asked = asked
times (suc n) w asked = w ∷ times n w asked

pub times-length : (n : ℕ) (w : Waiting) (asked : List Waiting) → length (times n w asked) ≡ n + length asked
times-length zero w asked = omega arith
times-length (suc n) w asked = let rest = times-length n w asked in omega (arith, rest)

pub times-asked : (n : ℕ) (w : Waiting) (asked : List Waiting) (id : ℕ) → was_asked id asked ≡ true → was_asked id (times n w asked) ≡ true
times-asked zero w asked id e = e
times-asked (suc n) w asked id e = or-right (nat_eq id w.id) (was_asked id (times n w asked)) (times-asked n w asked id e)

times-other : (n : ℕ) (w : Waiting) (asked : List Waiting) (id : ℕ) → nat_eq id w.id ≡ false → was_asked id (times n w asked) ≡ was_asked id asked
times-other zero w asked id e = refl
times-other (suc n) w asked id e = ap (λ b. b || was_asked id (times n w asked)) e ∙ times-other n w asked id e

pub times-all : (P : Waiting → Type 0) (n : ℕ) (w : Waiting) (asked : List Waiting) → P w → AllByRecursion P asked → AllByRecursion P (times n w asked)
times-all P zero w asked this all = all
times-all P (suc n) w asked this all = (this, times-all P n w asked this all)

-- a container of which no page was asked has its row's id
pub unasked-keeps : (asked : List Waiting) → KeepsKey (unasked asked) id_of waiting_id
unasked-keeps asked row w made = by (was_asked row.id asked) made
  where
    by : (b : Bool) → cond b None (waiting_of row) ≡ Some w → w.id ≡ row.id
    by true e = absurd (cc)
    by false e = waiting-keeps row w e

-- and no page of it was asked
unasked-is : (asked : List Waiting) (row : ObjectRow) (w : Waiting) → unasked asked row ≡ Some w → was_asked row.id asked ≡ false
unasked-is asked row w made = by (was_asked row.id asked) refl made
  where
    by : (b : Bool) → was_asked row.id asked ≡ b → cond b None (waiting_of row) ≡ Some w → was_asked row.id asked ≡ false
    by true e is = absurd (cc)
    by false e is = e

-- the first of them
pub first-unasked : (asked : List Waiting) (rows : List ObjectRow) (w : Waiting) (ws : List Waiting) → filter_map (unasked asked) rows ≡ w ∷ ws →
    (was_asked w.id asked ≡ false) × (is_among w.id (map id_of rows) ≡ true)
first-unasked asked [] w ws is = absurd (cc)
first-unasked asked (row ∷ rows) w ws is = by (unasked asked row) refl is (first-unasked asked rows w ws)
  where
    by : (o : Option Waiting) → unasked asked row ≡ o → cons_option o (filter_map (unasked asked) rows) ≡ w ∷ ws →
        (filter_map (unasked asked) rows ≡ w ∷ ws → (was_asked w.id asked ≡ false) × (is_among w.id (map id_of rows) ≡ true)) →
        (was_asked w.id asked ≡ false) × (is_among w.id (row.id ∷ map id_of rows) ≡ true)
    by None e is rest = let r = rest is in (r.0, or-right (nat_eq w.id row.id) (is_among w.id (map id_of rows)) r.1)
    by (Some v) e is rest =
        let same : v ≡ w = cc in
        let own : w.id ≡ row.id = ap waiting_id (sym same) ∙ unasked-keeps asked row v e in (
          ap (λ id. was_asked id asked) own ∙ unasked-is asked row v e,
          or-left (nat_eq w.id row.id) (is_among w.id (map id_of rows)) (eq-eqb w.id row.id own),
        )

-- without the first, where a page of it was asked, the others are left
pub others-unasked : (n : ℕ) (asked : List Waiting) (rows : List ObjectRow) (w : Waiting) (ws : List Waiting) → Rises id_of rows →
    filter_map (unasked asked) rows ≡ w ∷ ws → filter_map (unasked (times (suc n) w asked)) rows ≡ ws
others-unasked n asked [] w ws rises is = absurd (cc)
others-unasked n asked (row ∷ rows) w ws rises is = by (unasked asked row) refl is (others-unasked n asked rows w ws rises.1)
  where
    now : List Waiting
    now = times (suc n) w asked

    gone : (b : Bool) → was_asked row.id asked ≡ b → cond b None (waiting_of row) ≡ None → unasked now row ≡ None
    gone true e none = ap (λ b. cond b None (waiting_of row)) (times-asked (suc n) w asked row.id e)
    gone false e none = same (was_asked row.id now) (waiting_of row) none
      where
        same : (b : Bool) (o : Option Waiting) → o ≡ None → cond b None o ≡ None
        same true o is = refl
        same false o is = is

    rest_same : row.id ≡ w.id → filter_map (unasked now) rows ≡ filter_map (unasked asked) rows
    rest_same own = filter_map-equal (unasked now) (unasked asked) rows
        (all-map (λ (other : ObjectRow) above. ap (λ b. cond b None (waiting_of other))
        (times-other (suc n) w asked other.id (ne_eqb other.id w.id (λ e. absurd (omega (arith, above, e, own)))))) rows rises.0)

    by : (o : Option Waiting) → unasked asked row ≡ o → cons_option o (filter_map (unasked asked) rows) ≡ w ∷ ws →
        (filter_map (unasked asked) rows ≡ w ∷ ws → filter_map (unasked now) rows ≡ ws) → cons_option (unasked now row) (filter_map (unasked now) rows) ≡ ws
    by None e is rest = ap (λ o. cons_option o (filter_map (unasked now) rows)) (gone (was_asked row.id asked) refl e) ∙ rest is
    by (Some v) e is rest =
        let same : v ≡ w = cc in
        let left : filter_map (unasked asked) rows ≡ ws = cc in
        let own : row.id ≡ w.id = sym (unasked-keeps asked row v e) ∙ ap waiting_id same in
        ap (λ b. cons_option (cond b None (waiting_of row)) (filter_map (unasked now) rows))
        (or-left (nat_eq row.id w.id) (was_asked row.id (times n w asked)) (eq-eqb row.id w.id own))
        ∙ rest_same own ∙ left

-- rows none of which was asked wait as they are
pub new-unasked : (asked : List Waiting) (rows : List ObjectRow) → AllByRecursion (λ (row : ObjectRow). was_asked row.id asked ≡ false) rows →
    filter_map (unasked asked) rows ≡ filter_map waiting_of rows
new-unasked asked rows none = filter_map-equal (unasked asked) waiting_of rows (all-map (λ row e. ap (λ b. cond b None (waiting_of row)) e) rows none)

-- an id that is not among those of the containers asked
pub not-asked : (id : ℕ) (ids : List ℕ) (asked : List Waiting) → is_among id ids ≡ false → AllByRecursion (λ (w : Waiting). is_among w.id ids ≡ true) asked →
    was_asked id asked ≡ false
not-asked id ids [] new known = refl
not-asked id ids (w ∷ asked) new known = by (nat_eq id w.id) refl (not-asked id ids asked new known.1)
  where
    by : (b : Bool) → nat_eq id w.id ≡ b → was_asked id asked ≡ false → (b || was_asked id asked) ≡ false
    by true e rest = absurd (true≢false (sym known.0 ∙ ap (λ n. is_among n ids) (sym (eqb-true id w.id e)) ∙ new))
    by false e rest = rest

-- a row whose parent, if it has one, is a container of which a page was asked
abbrev pub Under : List Waiting → ObjectRow → Type 0
Under asked row = MatchOption row.parent (Unit {0}) (λ parent. was_asked parent asked ≡ true)

pub under-times : (n : ℕ) (w : Waiting) (asked : List Waiting) (row : ObjectRow) → Under asked row → Under (times n w asked) row
under-times n w asked row under = by row.parent under
  where
    by : (o : Option ℕ) → MatchOption o (Unit {0}) (λ parent. was_asked parent asked ≡ true) →
        MatchOption o (Unit {0}) (λ parent. was_asked parent (times n w asked) ≡ true)
    by None u = tt
    by (Some parent) u = times-asked n w asked parent u

-- so no such row is a child of another container
pub under-no_child : (asked : List Waiting) (w : Waiting) (row : ObjectRow) → was_asked w.id asked ≡ false → Under asked row → is_child_of w.id row ≡ false
under-no_child asked w row none under = by row.parent under
  where
    by : (o : Option ℕ) → MatchOption o (Unit {0}) (λ parent. was_asked parent asked ≡ true) → option_eq nat_eq o (Some w.id) ≡ false
    by None u = refl
    by (Some parent) u = ne_eqb parent w.id (λ e. absurd (true≢false (sym u ∙ ap (λ n. was_asked n asked) e ∙ none)))

-- a child of a container of which a page was asked
pub child-under : (n : ℕ) (w : Waiting) (asked : List Waiting) (row : ObjectRow) → is_child_of w.id row ≡ true → Under (times (suc n) w asked) row
child-under n w asked row child = by row.parent child
  where
    by : (o : Option ℕ) → option_eq nat_eq o (Some w.id) ≡ true → MatchOption o (Unit {0}) (λ parent. was_asked parent (times (suc n) w asked) ≡ true)
    by None e = tt
    by (Some parent) e = or-left (nat_eq parent w.id) (was_asked parent (times n w asked)) e

-- how many pages the listing of a container takes
abbrev pub own_pages : Waiting → ℕ
own_pages w = max 1 ((w.children + 255) / 256)

abbrev pub row_pages : ObjectRow → ℕ
row_pages row = pages_for row.trackers

-- the pages of what waits of rows are those of the rows
pub pages-made : (rows : List ObjectRow) → sum_by own_pages (filter_map waiting_of rows) ≡ sum_by row_pages rows
pages-made [] = refl
pages-made (row ∷ rows) = by row.trackers (pages-made rows) ∙ sym (sum_by-cons row_pages row rows)
  where
    by : (o : Option Trackers) → sum_by own_pages (filter_map waiting_of rows) ≡ sum_by row_pages rows →
        sum_by own_pages (cons_option (option_map (λ (t : Trackers). let w : Waiting = record { id = row.id; children = t.child_count } in w) o) (filter_map waiting_of rows))
        ≡ pages_for o + sum_by row_pages rows
    by None rest = rest ∙ (let e : sum_by row_pages rows ≡ 0 + sum_by row_pages rows = omega arith in e)
    by (Some t) rest = sum_by-cons own_pages (record { id = row.id; children = t.child_count }) (filter_map waiting_of rows)
        ∙ ap (λ n. max 1 ((t.child_count + 255) / 256) + n) rest
