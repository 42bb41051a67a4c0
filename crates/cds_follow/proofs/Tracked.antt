-- Each container of a copy counts each change under it once.
use Rattle.std.proofs.Common.{◌≡◌, ◌+◌, ◌≤◌, ℕ, Bool, true, false, cond, not, ◌&&◌, ◌||◌, nat_eq, nat_lt, List, [], ◌∷◌, map, filter, Option, Some, None, refl, sym, ap, ◌∙◌, subst, arith, true≢false, eq-eqb, ne_eqb, eqb-true}
use Rattle.std.specs.List.{count_by}
use Rattle.std.specs.Option.{option_eq, option_map, option_and_then}
use Rattle.std.proofs.lemmas.Bool.{eqb-false}
use Rattle.cds_object.specs.Object.{ObjectRow}
use Rattle.cds_object.specs.Tree.{row_of}
use Rattle.cds_object.specs.declared.row.Trackers.{Trackers}
use Rattle.cds_object.specs.declared.event.Class.{Class}
use Rattle.cds_object.specs.declared.event.Event.{Event}
use Rattle.cds_object.specs.declared.event.Event.TheVariants.{ObjAdd, ObjMod, ObjDel, StDone}
use Rattle.cds_catalog.proofs.StepsFind.{none≢some, count_by-cons}
use Rattle.cds_follow.specs.Copy.{Version, KnownRow, known_row, known_of, knows, knows_container, knows_child, counted, counts_addition, counts_modification, counts_deletion, parent_in, added_row, put_known, cannot_be, newer, Happening, Changes, Reads, rows_after}
use Rattle.cds_follow.specs.TrackerLaws.{is_added, is_deleted, changes_under, began_with, last_number, CountEach}
use Rattle.cds_follow.proofs.Happened.{put-other, keeps-others, neither, not-false, Possible}
use Rattle.cds_object.specs.Events.{is_container}

nat-swap : (a b : ℕ) → nat_eq a b ≡ nat_eq b a
nat-swap a b = by (nat_eq b a) refl
  where
    by : (t : Bool) → nat_eq b a ≡ t → nat_eq a b ≡ t
    by true e = eq-eqb a b (sym (eqb-true b a e))
    by false e = ne_eqb a b (λ s. eqb-false b a e (sym s))

option-swap : (a : ℕ) (o : Option ℕ) → option_eq nat_eq (Some a) o ≡ option_eq nat_eq o (Some a)
option-swap a None = refl
option-swap a (Some b) = nat-swap a b

-- ---- known rows

unfoldable pub AreDistinct : List KnownRow → Type 0
AreDistinct [] = Unit {0}
AreDistinct (row ∷ rows) = (knows row.id rows ≡ false) × AreDistinct rows

abbrev pub is_kid : ℕ → KnownRow → Bool
is_kid id row = option_eq nat_eq row.parent (Some id)

abbrev pub kids : ℕ → List KnownRow → ℕ
kids id rows = count_by (is_kid id) rows

-- rows that are changed one by one, with their ids and parents
module _ (f : KnownRow → KnownRow) (same-id : (row : KnownRow) → (f row).id ≡ row.id) (same-parent : (row : KnownRow) → (f row).parent ≡ row.parent) where
  map-knows : (id : ℕ) (rows : List KnownRow) → knows id (map f rows) ≡ knows id rows
  map-knows id [] = refl
  map-knows id (row ∷ rows) = λ i. nat_eq (same-id row i) id || map-knows id rows i

  map-known : (id : ℕ) (rows : List KnownRow) → known_of id (map f rows) ≡ option_map f (known_of id rows)
  map-known id [] = refl
  map-known id (row ∷ rows) = (λ i. cond (nat_eq (same-id row i) id) (Some (f row)) (map-known id rows i)) ∙ by (nat_eq row.id id)
    where
      by : (b : Bool) → cond b (Some (f row)) (option_map f (known_of id rows)) ≡ option_map f (cond b (Some row) (known_of id rows))
      by true = refl
      by false = refl

  map-kids : (id : ℕ) (rows : List KnownRow) → kids id (map f rows) ≡ kids id rows
  map-kids id [] = refl
  map-kids id (row ∷ rows) =
      count_by-cons (is_kid id) (f row) (map f rows)
      ∙ (λ i. cond (option_eq nat_eq (same-parent row i) (Some id)) 1 0 + map-kids id rows i)
      ∙ sym (count_by-cons (is_kid id) row rows)

  map-distinct : (rows : List KnownRow) → AreDistinct rows → AreDistinct (map f rows)
  unfolding AreDistinct
  map-distinct [] d = tt
  map-distinct (row ∷ rows) d = (ap (λ (n : ℕ). knows n (map f rows)) (same-id row) ∙ map-knows row.id rows ∙ d.0, map-distinct rows d.1)

-- rows whose trackers are counted anew
module _ (f : Trackers → Trackers) (parent : Option ℕ) where
  abbrev one : KnownRow → KnownRow
  one row = cond (option_eq nat_eq (Some row.id) parent) (record row { trackers = option_map f row.trackers }) row

  one-id : (row : KnownRow) → (one row).id ≡ row.id
  one-id row = by (option_eq nat_eq (Some row.id) parent)
    where
      by : (b : Bool) → (cond b (record row { trackers = option_map f row.trackers }) row).id ≡ row.id
      by true = refl
      by false = refl

  one-parent : (row : KnownRow) → (one row).parent ≡ row.parent
  one-parent row = by (option_eq nat_eq (Some row.id) parent)
    where
      by : (b : Bool) → (cond b (record row { trackers = option_map f row.trackers }) row).parent ≡ row.parent
      by true = refl
      by false = refl

  -- the trackers of an id after it
  counted-found : (id : ℕ) (rows : List KnownRow) (row : KnownRow) (now : Trackers) → known_of id (counted f parent rows) ≡ Some row → row.trackers ≡ Some now
      → (before : KnownRow) × (was : Trackers) × (known_of id rows ≡ Some before) × (before.trackers ≡ Some was)
      × (now ≡ cond (option_eq nat_eq parent (Some id)) (f was) was)
  counted-found id [] row now e t = none≢some None row refl e
  counted-found id (next ∷ rows) row now e t = by (nat_eq next.id id) refl (ap (λ (n : ℕ). nat_eq n id) (sym (one-id next)) ∙ refl) e (λ k. counted-found id rows row now k t)
    where
      Found : List KnownRow → Type 0
      Found l = (before : KnownRow) × (was : Trackers) × (known_of id l ≡ Some before) × (before.trackers ≡ Some was)
          × (now ≡ cond (option_eq nat_eq parent (Some id)) (f was) was)

      is-some : (o : Option Trackers) → option_map f o ≡ Some now → (was : Trackers) × (o ≡ Some was) × (now ≡ f was)
      is-some None k = none≢some None now refl k
      is-some (Some was) k = (was, refl, cc)

      here : nat_eq next.id id ≡ true → (b : Bool) → option_eq nat_eq (Some next.id) parent ≡ b
          → cond b (record next { trackers = option_map f next.trackers }) next ≡ row
          → (before : KnownRow) × (was : Trackers) × (Some next ≡ Some before) × (before.trackers ≡ Some was) × (now ≡ cond (option_eq nat_eq parent (Some id)) (f was) was)
      here x true q same =
          let found = is-some next.trackers (ap (λ (r : KnownRow). r.trackers) same ∙ t) in
          let hit : option_eq nat_eq parent (Some id) ≡ true = sym (option-swap id parent) ∙ ap (λ (n : ℕ). option_eq nat_eq (Some n) parent) (sym (eqb-true next.id id x)) ∙ q in
          (next, found.0, refl, found.1, found.2 ∙ (λ i. cond (sym hit i) (f found.0) found.0))
      here x false q same =
          let hit : option_eq nat_eq parent (Some id) ≡ false = sym (option-swap id parent) ∙ ap (λ (n : ℕ). option_eq nat_eq (Some n) parent) (sym (eqb-true next.id id x)) ∙ q in
          (next, now, refl, ap (λ (r : KnownRow). r.trackers) same ∙ t, (λ i. cond (sym hit i) (f now) now))

      by : (b : Bool) → nat_eq next.id id ≡ b → nat_eq next.id id ≡ nat_eq (one next).id id → cond (nat_eq (one next).id id) (Some (one next)) (known_of id (counted f parent rows)) ≡ Some row
          → (known_of id (counted f parent rows) ≡ Some row → Found rows) → Found (next ∷ rows)
      by true x s k r =
          let first : Some (one next) ≡ Some row = (λ i. cond ((sym x ∙ s) i) (Some (one next)) (known_of id (counted f parent rows))) ∙ k in
          let same : one next ≡ row = cc in
          let h = here x (option_eq nat_eq (Some next.id) parent) refl same in
          (h.0, h.1, (λ i. cond (x i) (Some next) (known_of id rows)) ∙ h.2, h.3, h.4)
      by false x s k r =
          let rest = r ((λ i. cond ((sym x ∙ s) i) (Some (one next)) (known_of id (counted f parent rows))) ∙ k) in
          (rest.0, rest.1, (λ i. cond (x i) (Some next) (known_of id rows)) ∙ rest.2, rest.3, rest.4)

-- ---- a row that is put among others

module _ (new : KnownRow) where
  put-knows : (id : ℕ) (rows : List KnownRow) → knows id (put_known new rows) ≡ nat_eq new.id id || knows id rows
  put-knows id [] = refl
  put-knows id (next ∷ rows) = by (nat_lt new.id next.id) (put-knows id rows)
    where
      swap : (a b c : Bool) → a || (b || c) ≡ b || (a || c)
      swap true true c = refl
      swap true false c = refl
      swap false true c = refl
      swap false false c = refl

      by : (b : Bool) → knows id (put_known new rows) ≡ nat_eq new.id id || knows id rows
          → knows id (cond b (new ∷ next ∷ rows) (next ∷ put_known new rows)) ≡ nat_eq new.id id || (nat_eq next.id id || knows id rows)
      by true r = refl
      by false r = ap (λ (c : Bool). nat_eq next.id id || c) r ∙ swap (nat_eq next.id id) (nat_eq new.id id) (knows id rows)

  put-kids : (id : ℕ) (rows : List KnownRow) → kids id (put_known new rows) ≡ cond (is_kid id new) 1 0 + kids id rows
  put-kids id [] = count_by-cons (is_kid id) new []
  put-kids id (next ∷ rows) = by (nat_lt new.id next.id) (put-kids id rows)
    where
      by : (b : Bool) → kids id (put_known new rows) ≡ cond (is_kid id new) 1 0 + kids id rows
          → kids id (cond b (new ∷ next ∷ rows) (next ∷ put_known new rows)) ≡ cond (is_kid id new) 1 0 + kids id (next ∷ rows)
      by true r = count_by-cons (is_kid id) new (next ∷ rows)
      by false r =
          let more = count_by-cons (is_kid id) next (put_known new rows) in
          let less = count_by-cons (is_kid id) next rows in
          omega (arith, r, more, less)

  put-distinct : (rows : List KnownRow) → AreDistinct rows → knows new.id rows ≡ false → AreDistinct (put_known new rows)
  unfolding AreDistinct
  put-distinct [] d n = (refl, tt)
  put-distinct (next ∷ rows) d n = by (nat_lt new.id next.id) (put-distinct rows d.1 (neither (nat_eq next.id new.id) (knows new.id rows) n).1)
    where
      by : (b : Bool) → AreDistinct (put_known new rows) → AreDistinct (cond b (new ∷ next ∷ rows) (next ∷ put_known new rows))
      by true r = (n, d)
      by false r = (
        put-knows next.id rows
            ∙ (λ i. (nat-swap new.id next.id ∙ (neither (nat_eq next.id new.id) (knows new.id rows) n).0) i || d.0 i),
        r,
      )

  put-new : (id : ℕ) (rows : List KnownRow) → new.id ≡ id → knows id rows ≡ false → known_of id (put_known new rows) ≡ Some new
  put-new id [] same n = λ i. cond (eq-eqb new.id id same i) (Some new) None
  put-new id (next ∷ rows) same n = by (nat_lt new.id next.id) (put-new id rows same (neither (nat_eq next.id id) (knows id rows) n).1)
    where
      by : (b : Bool) → known_of id (put_known new rows) ≡ Some new → known_of id (cond b (new ∷ next ∷ rows) (next ∷ put_known new rows)) ≡ Some new
      by true r = λ i. cond (eq-eqb new.id id same i) (Some new) (known_of id (next ∷ rows))
      by false r = (λ i. cond ((neither (nat_eq next.id id) (knows id rows) n).0 i) (Some next) (known_of id (put_known new rows))) ∙ r

-- ---- rows without one of them

abbrev others : ℕ → List KnownRow → List KnownRow
others object rows = filter (λ (row : KnownRow). not (nat_eq row.id object)) rows

none-other : (object : ℕ) (rows : List KnownRow) → knows object rows ≡ false → others object rows ≡ rows
none-other object [] n = refl
none-other object (row ∷ rows) n =
    (λ i. cond (not ((neither (nat_eq row.id object) (knows object rows) n).0 i)) (row ∷ others object rows) (others object rows))
    ∙ ap (λ (l : List KnownRow). row ∷ l) (none-other object rows (neither (nat_eq row.id object) (knows object rows) n).1)

others-known : (object : ℕ) (rows : List KnownRow) → known_of object (others object rows) ≡ None
others-known object [] = refl
others-known object (row ∷ rows) = by (nat_eq row.id object) refl (others-known object rows)
  where
    by : (b : Bool) → nat_eq row.id object ≡ b → known_of object (others object rows) ≡ None
        → known_of object (cond (not b) (row ∷ others object rows) (others object rows)) ≡ None
    by true e r = r
    by false e r = (λ i. cond (e i) (Some row) (known_of object (others object rows))) ∙ r

others-knows : (id object : ℕ) (rows : List KnownRow) → nat_eq object id ≡ false → knows id (others object rows) ≡ knows id rows
others-knows id object [] x = refl
others-knows id object (row ∷ rows) x = by (nat_eq row.id object) refl (others-knows id object rows x)
  where
    by : (b : Bool) → nat_eq row.id object ≡ b → knows id (others object rows) ≡ knows id rows
        → knows id (cond (not b) (row ∷ others object rows) (others object rows)) ≡ nat_eq row.id id || knows id rows
    by true e r = r ∙ sym (λ i. (ap (λ (n : ℕ). nat_eq n id) (eqb-true row.id object e) ∙ x) i || knows id rows)
    by false e r = ap (λ (c : Bool). nat_eq row.id id || c) r

others-fewer : (id object : ℕ) (rows : List KnownRow) → knows id rows ≡ false → knows id (others object rows) ≡ false
others-fewer id object [] n = refl
others-fewer id object (row ∷ rows) n = by (nat_eq row.id object) (others-fewer id object rows parts.1)
  where
    parts : (nat_eq row.id id ≡ false) × (knows id rows ≡ false)
    parts = neither (nat_eq row.id id) (knows id rows) n

    by : (b : Bool) → knows id (others object rows) ≡ false → knows id (cond (not b) (row ∷ others object rows) (others object rows)) ≡ false
    by true r = r
    by false r = λ i. parts.0 i || r i

others-distinct : (object : ℕ) (rows : List KnownRow) → AreDistinct rows → AreDistinct (others object rows)
unfolding AreDistinct
others-distinct object [] d = tt
others-distinct object (row ∷ rows) d = by (nat_eq row.id object) (others-distinct object rows d.1)
  where
    by : (b : Bool) → AreDistinct (others object rows) → AreDistinct (cond (not b) (row ∷ others object rows) (others object rows))
    by true r = r
    by false r = (others-fewer row.id object rows d.0, r)

others-kids : (id object : ℕ) (rows : List KnownRow) → AreDistinct rows → knows object rows ≡ true
    → kids id rows ≡ cond (option_eq nat_eq (parent_in object rows) (Some id)) 1 0 + kids id (others object rows)
unfolding AreDistinct
others-kids id object [] d k = absurd (true≢false (sym k))
others-kids id object (row ∷ rows) d k = by (nat_eq row.id object) refl k (λ m. others-kids id object rows d.1 m)
  where
    one-more : kids id (row ∷ rows) ≡ cond (is_kid id row) 1 0 + kids id rows
    one-more = count_by-cons (is_kid id) row rows

    parent : (b : Bool) → nat_eq row.id object ≡ b → parent_in object (row ∷ rows) ≡ cond b row.parent (parent_in object rows)
    parent true e = rw e refl
    parent false e = rw e refl

    by : (b : Bool) → nat_eq row.id object ≡ b → b || knows object rows ≡ true
        → (knows object rows ≡ true → kids id rows ≡ cond (option_eq nat_eq (parent_in object rows) (Some id)) 1 0 + kids id (others object rows))
        → kids id (row ∷ rows) ≡ cond (option_eq nat_eq (parent_in object (row ∷ rows)) (Some id)) 1 0 + kids id (cond (not b) (row ∷ others object rows) (others object rows))
    by true e m r =
        let away : knows object rows ≡ false = ap (λ (n : ℕ). knows n rows) (sym (eqb-true row.id object e)) ∙ d.0 in
        one-more ∙ (λ i. cond (option_eq nat_eq (sym (parent true e) i) (Some id)) 1 0 + kids id (sym (none-other object rows away) i))
    by false e m r =
        let rest = r m in
        let more = count_by-cons (is_kid id) row (others object rows) in
        let same = ap {B = ℕ} (λ (o : Option ℕ). cond (option_eq nat_eq o (Some id)) 1 0) (parent false e) in
        let first = one-more in
        omega (arith, first, rest, more, same)

others-few : (id object : ℕ) (rows : List KnownRow) → kids id (others object rows) ≤ kids id rows
others-few id object [] = omega arith
others-few id object (row ∷ rows) = by (nat_eq row.id object) (others-few id object rows)
  where
    by : (b : Bool) → kids id (others object rows) ≤ kids id rows → kids id (cond (not b) (row ∷ others object rows) (others object rows)) ≤ kids id (row ∷ rows)
    by true r = let more = count_by-cons (is_kid id) row rows in omega (arith, r, more)
    by false r =
        let more = count_by-cons (is_kid id) row rows in
        let other = count_by-cons (is_kid id) row (others object rows) in
        omega (arith, r, more, other)

-- where no row has it as parent it has no kids
no-child : (id : ℕ) (rows : List KnownRow) → knows_child id rows ≡ false → kids id rows ≡ 0
no-child id [] n = refl
no-child id (row ∷ rows) n =
    let parts = neither (is_kid id row) (knows_child id rows) n in
    count_by-cons (is_kid id) row rows ∙ (λ i. cond (parts.0 i) 1 0 + no-child id rows parts.1 i)

container-knows : (id : ℕ) (rows : List KnownRow) → knows_container id rows ≡ true → knows id rows ≡ true
container-knows id [] e = e
container-knows id (row ∷ rows) e = by (nat_eq row.id id) row.folder e (container-knows id rows)
  where
    by : (b f : Bool) → (b && f) || knows_container id rows ≡ true → (knows_container id rows ≡ true → knows id rows ≡ true) → b || knows id rows ≡ true
    by true f k r = refl
    by false f k r = r k

-- ---- the counts after one change more

-- what a container counts, with the rows under it
abbrev pub CountsKids : Trackers → List Event → Trackers → ℕ → Type 0
CountsKids begun changes now kids =
    (now.container_update ≡ last_number begun changes)
    × (begun.child_count + count_by is_added changes ≤ 4294967295
    → (now.child_count + count_by is_deleted changes ≡ begun.child_count + count_by is_added changes) × (now.child_count ≡ kids))
    × (begun.deleted + count_by is_deleted changes ≤ 4294967295 → now.deleted ≡ begun.deleted + count_by is_deleted changes)

module _ (begun was : Trackers) (changes : List Event) (kids : ℕ) where
  added-counts : (object number : ℕ) (st : Bool) (parent : ℕ) (class : Class) → CountsKids begun changes was kids
      → CountsKids begun (ObjAdd object number st parent class ∷ changes) (counts_addition number was) (1 + kids)
  added-counts object number st parent class c =
      let event : Event = ObjAdd object number st parent class in
      let adds = count_by-cons is_added event changes in
      let deletes = count_by-cons is_deleted event changes in (
        refl,
        (λ l.
            let before = c.1 (omega (arith, l, adds)) in
            let sum = before.0 in
            let same = before.1 in
            (omega (arith, l, adds, deletes, sum), omega (arith, l, adds, deletes, sum, same))),
        (λ l. let before = c.2 (omega (arith, l, deletes)) in omega (arith, before, deletes)),
      )

  modified-counts : (object number : ℕ) (st : Bool) → CountsKids begun changes was kids → CountsKids begun (ObjMod object number st ∷ changes) (counts_modification number was) kids
  modified-counts object number st c =
      let event : Event = ObjMod object number st in
      let adds = count_by-cons is_added event changes in
      let deletes = count_by-cons is_deleted event changes in (
        refl,
        (λ l.
            let before = c.1 (omega (arith, l, adds)) in
            let sum = before.0 in
            (omega (arith, adds, deletes, sum), before.1)),
        (λ l. let before = c.2 (omega (arith, l, deletes)) in omega (arith, before, deletes)),
      )

  deleted-counts : (object number : ℕ) (st : Bool) → CountsKids begun changes was (1 + kids) → CountsKids begun (ObjDel object number st ∷ changes) (counts_deletion number was) kids
  deleted-counts object number st c =
      let event : Event = ObjDel object number st in
      let adds = count_by-cons is_added event changes in
      let deletes = count_by-cons is_deleted event changes in (
        refl,
        (λ l.
            let before = c.1 (omega (arith, l, adds)) in
            let sum = before.0 in
            let same = before.1 in
            (omega (arith, adds, deletes, sum, same), omega (arith, same))),
        (λ l. let before = c.2 (omega (arith, l, deletes)) in omega (arith, before, deletes, l)),
      )

-- ---- what befell a copy

-- what the rows of a load have to be: no id twice, no row under what does not stand, and each container counts its children
pub record AreCounted (rows : List ObjectRow) : Type 0 where
  pub distinct : AreDistinct (map known_row rows)
  pub none : (id : ℕ) → knows id (map known_row rows) ≡ false → kids id (map known_row rows) ≡ 0
  pub counts : (id : ℕ) (row : ObjectRow) (t : Trackers) → row_of id rows ≡ Some row → row.trackers ≡ Some t → t.child_count ≡ kids id (map known_row rows)

first-known : (id : ℕ) (rows : List ObjectRow) → known_of id (map known_row rows) ≡ option_map known_row (row_of id rows)
first-known id [] = refl
first-known id (row ∷ rows) = by (nat_eq row.id id) (first-known id rows)
  where
    by : (b : Bool) → known_of id (map known_row rows) ≡ option_map known_row (row_of id rows)
        → cond b (Some (known_row row)) (known_of id (map known_row rows)) ≡ option_map known_row (cond b (Some row) (row_of id rows))
    by true r = refl
    by false r = r

module _ (id : ℕ) (rows : List ObjectRow) (first : AreCounted rows) where
  abbrev after : List Happening → List KnownRow
  after happenings = rows_after rows happenings

  abbrev under : List Happening → List Event
  under happenings = changes_under id rows happenings

  pub record IsCounted (happenings : List Happening) : Type 0 where
    pub distinct : AreDistinct (after happenings)
    pub none : knows id (after happenings) ≡ false → kids id (after happenings) ≡ 0
    pub counts : (row : KnownRow) (now : Trackers) → known_of id (after happenings) ≡ Some row → row.trackers ≡ Some now
        → (begun : Trackers) × (began_with id rows happenings ≡ Some begun) × CountsKids begun (under happenings) now (kids id (after happenings))

  counted-load : IsCounted []
  counted-load = record {
    distinct = first.distinct;
    none = first.none id;
    counts = λ row now e t. by (row_of id rows) refl row now (sym (first-known id rows) ∙ e) t;
  }
    where
      by : (o : Option ObjectRow) → row_of id rows ≡ o → (row : KnownRow) (now : Trackers) → option_map known_row o ≡ Some row → row.trackers ≡ Some now
          → (begun : Trackers) × (option_and_then (λ (r : ObjectRow). r.trackers) (row_of id rows) ≡ Some begun) × CountsKids begun [] now (kids id (map known_row rows))
      by None f row now e t = none≢some None row refl e
      by (Some found) f row now e t =
          let same : known_row found ≡ row = cc in
          let trackers : found.trackers ≡ Some now = ap (λ (r : KnownRow). r.trackers) same ∙ t in
          let children = first.counts id found now f trackers in (
            now,
            ap (option_and_then (λ (r : ObjectRow). r.trackers)) f ∙ trackers,
            (refl, (λ l. (refl, children)), (λ l. omega arith)),
          )

  -- an object's own row was read
  counted-read : (other : ℕ) (v : Version) (older : List Happening) → IsCounted older → IsCounted (Reads other v ∷ older)
  counted-read other v older c = record {
    distinct = map-distinct read same-id same-parent (after older) c.distinct;
    none = λ n. map-kids read same-id same-parent id (after older) ∙ c.none (sym (map-knows read same-id same-parent id (after older)) ∙ n);
    counts = λ row now e t. by (known_of id (after older)) refl row now (sym (map-known read same-id same-parent id (after older)) ∙ e) t;
  }
    where
      read : KnownRow → KnownRow
      read row = cond (nat_eq row.id other) (record row { says = Some (newer v row.says) }) row

      same-id : (row : KnownRow) → (read row).id ≡ row.id
      same-id row = on (nat_eq row.id other)
        where
          on : (b : Bool) → (cond b (record row { says = Some (newer v row.says) }) row).id ≡ row.id
          on true = refl
          on false = refl

      same-parent : (row : KnownRow) → (read row).parent ≡ row.parent
      same-parent row = on (nat_eq row.id other)
        where
          on : (b : Bool) → (cond b (record row { says = Some (newer v row.says) }) row).parent ≡ row.parent
          on true = refl
          on false = refl

      same-trackers : (row : KnownRow) → (read row).trackers ≡ row.trackers
      same-trackers row = on (nat_eq row.id other)
        where
          on : (b : Bool) → (cond b (record row { says = Some (newer v row.says) }) row).trackers ≡ row.trackers
          on true = refl
          on false = refl

      by : (o : Option KnownRow) → known_of id (after older) ≡ o → (row : KnownRow) (now : Trackers) → option_map read o ≡ Some row → row.trackers ≡ Some now
          → (begun : Trackers) × (began_with id rows older ≡ Some begun) × CountsKids begun (under older) now (kids id (map read (after older)))
      by None f row now e t = none≢some None row refl e
      by (Some before) f row now e t =
          let same : read before ≡ row = cc in
          let was = c.counts before now f (sym (same-trackers before) ∙ ap (λ (r : KnownRow). r.trackers) same ∙ t) in
          (was.0, was.1, subst (CountsKids was.0 (under older) now) (sym (map-kids read same-id same-parent id (after older))) was.2)

  -- a modification
  counted-modified : (object number : ℕ) (st : Bool) (older : List Happening) → IsCounted older → IsCounted (Changes (ObjMod object number st) ∷ older)
  counted-modified object number st older c = record {
    distinct = map-distinct (one count parent) (one-id count parent) (one-parent count parent) (after older) c.distinct;
    none = λ n. same-kids ∙ c.none (sym (map-knows (one count parent) (one-id count parent) (one-parent count parent) id (after older)) ∙ n);
    counts = counts;
  }
    where
      count : Trackers → Trackers
      count = counts_modification number

      parent : Option ℕ
      parent = parent_in object (after older)

      same-kids : kids id (counted count parent (after older)) ≡ kids id (after older)
      same-kids = map-kids (one count parent) (one-id count parent) (one-parent count parent) id (after older)

      counts : (row : KnownRow) (now : Trackers) → known_of id (counted count parent (after older)) ≡ Some row → row.trackers ≡ Some now
          → (begun : Trackers) × (began_with id rows older ≡ Some begun)
          × CountsKids begun (cond (option_eq nat_eq parent (Some id)) (ObjMod object number st ∷ under older) (under older)) now (kids id (counted count parent (after older)))
      counts row now e t =
          let found = counted-found count parent id (after older) row now e t in
          let was = c.counts found.0 found.1 found.2 found.3 in (
            was.0,
            was.1,
            subst (CountsKids was.0 (cond (option_eq nat_eq parent (Some id)) (ObjMod object number st ∷ under older) (under older)) now) (sym same-kids)
                (subst (λ (n : Trackers). CountsKids was.0 (cond (option_eq nat_eq parent (Some id)) (ObjMod object number st ∷ under older) (under older)) n (kids id (after older))) (sym found.4)
                (by was.0 found.1 was.2 (option_eq nat_eq parent (Some id)))),
          )
        where
          by : (begun was : Trackers) → CountsKids begun (under older) was (kids id (after older)) → (b : Bool)
              → CountsKids begun (cond b (ObjMod object number st ∷ under older) (under older)) (cond b (count was) was) (kids id (after older))
          by begun was k true = modified-counts begun was (under older) (kids id (after older)) object number st k
          by begun was k false = k

  -- a deletion
  counted-deleted : (object number : ℕ) (st : Bool) (older : List Happening) → cannot_be (after older) (ObjDel object number st) ≡ false → IsCounted older
      → IsCounted (Changes (ObjDel object number st) ∷ older)
  counted-deleted object number st older can c = record {
    distinct = map-distinct (one count parent) (one-id count parent) (one-parent count parent) (others object (after older)) (others-distinct object (after older) c.distinct);
    none = λ n. same-kids ∙ none (sym (map-knows (one count parent) (one-id count parent) (one-parent count parent) id (others object (after older))) ∙ n);
    counts = counts;
  }
    where
      count : Trackers → Trackers
      count = counts_deletion number

      parent : Option ℕ
      parent = parent_in object (after older)

      parts : (nat_eq object 0 || not (knows object (after older)) ≡ false) × (knows_child object (after older) ≡ false)
      parts = neither (nat_eq object 0 || not (knows object (after older))) (knows_child object (after older)) can

      there : knows object (after older) ≡ true
      there = not-false (knows object (after older)) (neither (nat_eq object 0) (not (knows object (after older))) parts.0).1

      childless : knows_child object (after older) ≡ false
      childless = parts.1

      same-kids : kids id (counted count parent (others object (after older))) ≡ kids id (others object (after older))
      same-kids = map-kids (one count parent) (one-id count parent) (one-parent count parent) id (others object (after older))

      fewer : kids id (after older) ≡ cond (option_eq nat_eq parent (Some id)) 1 0 + kids id (others object (after older))
      fewer = others-kids id object (after older) c.distinct there

      none : knows id (others object (after older)) ≡ false → kids id (others object (after older)) ≡ 0
      none n = by (nat_eq object id) refl
        where
          few : kids id (others object (after older)) ≤ kids id (after older)
          few = others-few id object (after older)

          by : (b : Bool) → nat_eq object id ≡ b → kids id (others object (after older)) ≡ 0
          by true x =
              let zero = no-child id (after older) (ap (λ (n : ℕ). knows_child n (after older)) (sym (eqb-true object id x)) ∙ childless) in
              let less = few in
              omega (arith, zero, less)
          by false x =
              let zero = c.none (sym (others-knows id object (after older) x) ∙ n) in
              let less = few in
              omega (arith, zero, less)

      counts : (row : KnownRow) (now : Trackers) → known_of id (counted count parent (others object (after older))) ≡ Some row → row.trackers ≡ Some now
          → (begun : Trackers) × (began_with id rows older ≡ Some begun)
          × CountsKids begun (cond (option_eq nat_eq parent (Some id)) (ObjDel object number st ∷ under older) (under older)) now (kids id (counted count parent (others object (after older))))
      counts row now e t =
          let found = counted-found count parent id (others object (after older)) row now e t in
          let was = c.counts found.0 found.1 (still found.0 found.2) found.3 in (
            was.0,
            was.1,
            subst (CountsKids was.0 (cond (option_eq nat_eq parent (Some id)) (ObjDel object number st ∷ under older) (under older)) now) (sym same-kids)
                (subst (λ (n : Trackers). CountsKids was.0 (cond (option_eq nat_eq parent (Some id)) (ObjDel object number st ∷ under older) (under older)) n (kids id (others object (after older)))) (sym found.4)
                (by was.0 found.1 (option_eq nat_eq parent (Some id)) (subst (CountsKids was.0 (under older) found.1) fewer was.2))),
          )
        where
          still : (before : KnownRow) → known_of id (others object (after older)) ≡ Some before → known_of id (after older) ≡ Some before
          still before f = on (nat_eq object id) refl
            where
              on : (b : Bool) → nat_eq object id ≡ b → known_of id (after older) ≡ Some before
              on true x =
                  none≢some (known_of id (others object (after older))) before
                  (ap (λ (n : ℕ). known_of n (others object (after older))) (sym (eqb-true object id x)) ∙ others-known object (after older)) f
              on false x = sym (keeps-others id object (after older) x) ∙ f

          by : (begun was : Trackers) (b : Bool) → CountsKids begun (under older) was (cond b 1 0 + kids id (others object (after older)))
              → CountsKids begun (cond b (ObjDel object number st ∷ under older) (under older)) (cond b (count was) was) (kids id (others object (after older)))
          by begun was true k = deleted-counts begun was (under older) (kids id (others object (after older))) object number st k
          by begun was false k =
              let same : 0 + kids id (others object (after older)) ≡ kids id (others object (after older)) = omega arith in
              subst (CountsKids begun (under older) was) same k

  -- an addition
  counted-added : (object number : ℕ) (st : Bool) (parent : ℕ) (class : Class) (older : List Happening) → cannot_be (after older) (ObjAdd object number st parent class) ≡ false
      → IsCounted older → IsCounted (Changes (ObjAdd object number st parent class) ∷ older)
  counted-added object number st parent class older can c = record {
    distinct = put-distinct new before (map-distinct (one count (Some parent)) (one-id count (Some parent)) (one-parent count (Some parent)) (after older) c.distinct)
        (same-knows object ∙ absent);
    none = λ n. none (sym (put-knows new id before) ∙ n);
    counts = counts;
  }
    where
      count : Trackers → Trackers
      count = counts_addition number

      new : KnownRow
      new = added_row object number parent class

      before : List KnownRow
      before = counted count (Some parent) (after older)

      absent : knows object (after older) ≡ false
      absent = (neither (knows object (after older)) (not (knows_container parent (after older))) can).0

      holder : knows parent (after older) ≡ true
      holder = container-knows parent (after older) (not-false (knows_container parent (after older)) (neither (knows object (after older)) (not (knows_container parent (after older))) can).1)

      same-knows : (n : ℕ) → knows n before ≡ knows n (after older)
      same-knows n = map-knows (one count (Some parent)) (one-id count (Some parent)) (one-parent count (Some parent)) n (after older)

      same-kids : kids id before ≡ kids id (after older)
      same-kids = map-kids (one count (Some parent)) (one-id count (Some parent)) (one-parent count (Some parent)) id (after older)

      more : kids id (put_known new before) ≡ cond (nat_eq parent id) 1 0 + kids id (after older)
      more = put-kids new id before ∙ ap (λ (n : ℕ). cond (nat_eq parent id) 1 0 + n) same-kids

      -- what does not stand is no parent of what is added
      outside : knows id (after older) ≡ false → nat_eq parent id ≡ false
      outside n = ne_eqb parent id (λ same. true≢false (sym holder ∙ ap (λ (m : ℕ). knows m (after older)) same ∙ n))

      none : nat_eq object id || knows id before ≡ false → kids id (put_known new before) ≡ 0
      none n =
          let away = sym (same-knows id) ∙ (neither (nat_eq object id) (knows id before) n).1 in
          let zero = c.none away in
          more ∙ (λ i. cond (outside away i) 1 0 + zero i)

      Counts : Bool → Trackers → Type 0
      Counts b now =
          (begun : Trackers) × (cond b (Some (record { container_update = number; child_count = 0; deleted = 0 })) (began_with id rows older) ≡ Some begun)
          × CountsKids begun (cond b [] (cond (nat_eq parent id) (ObjAdd object number st parent class ∷ under older) (under older))) now (kids id (put_known new before))

      counts : (row : KnownRow) (now : Trackers) → known_of id (put_known new before) ≡ Some row → row.trackers ≡ Some now → Counts (nat_eq object id) now
      counts row now e t = by (nat_eq object id) refl
        where
          on : (begun was : Trackers) → CountsKids begun (under older) was (kids id (after older)) → (b : Bool)
              → CountsKids begun (cond b (ObjAdd object number st parent class ∷ under older) (under older)) (cond b (count was) was) (cond b 1 0 + kids id (after older))
          on begun was k true = added-counts begun was (under older) (kids id (after older)) object number st parent class k
          on begun was k false =
              let same : kids id (after older) ≡ 0 + kids id (after older) = omega arith in
              subst (CountsKids begun (under older) was) same k

          begins : (b : Bool) → cond b (Some (record { container_update = number; child_count = 0; deleted = 0 })) None ≡ Some now
              → now ≡ record { container_update = number; child_count = 0; deleted = 0 }
          begins true k = cc
          begins false k = none≢some None now refl k

          by : (b : Bool) → nat_eq object id ≡ b → Counts b now
          by true x =
              let same : object ≡ id = eqb-true object id x in
              let away : knows id (after older) ≡ false = ap (λ (n : ℕ). knows n (after older)) (sym same) ∙ absent in
              let is : Some new ≡ Some row = sym (put-new new id before same (same-knows id ∙ away)) ∙ e in
              let row-is : new ≡ row = cc in
              let now-is = begins (is_container class) (ap (λ (r : KnownRow). r.trackers) row-is ∙ t) in
              let zero : kids id (put_known new before) ≡ 0 = more ∙ (λ i. cond (outside away i) 1 0 + c.none away i) in (
                record { container_update = number; child_count = 0; deleted = 0 },
                refl,
                subst (λ (n : Trackers). CountsKids (record { container_update = number; child_count = 0; deleted = 0 }) [] n (kids id (put_known new before))) (sym now-is)
                    (refl, (λ l. (refl, sym zero)), (λ l. refl)),
              )
          by false x =
              let found = counted-found count (Some parent) id (after older) row now (sym (put-other id new before x) ∙ e) t in
              let was = c.counts found.0 found.1 found.2 found.3 in (
                was.0,
                was.1,
                subst (CountsKids was.0 (cond (nat_eq parent id) (ObjAdd object number st parent class ∷ under older) (under older)) now) (sym more)
                    (subst (λ (n : Trackers). CountsKids was.0 (cond (nat_eq parent id) (ObjAdd object number st parent class ∷ under older) (under older)) n (cond (nat_eq parent id) 1 0 + kids id (after older)))
                    (sym found.4) (on was.0 found.1 was.2 (nat_eq parent id))),
              )

  pub counted-all : (happenings : List Happening) → Possible rows happenings → IsCounted happenings
  counted-all [] possible = counted-load
  counted-all (Changes (ObjAdd object number st parent class) ∷ older) possible = counted-added object number st parent class older possible.0 (counted-all older possible.1)
  counted-all (Changes (ObjMod object number st) ∷ older) possible = counted-modified object number st older (counted-all older possible.1)
  counted-all (Changes (ObjDel object number st) ∷ older) possible = counted-deleted object number st older possible.0 (counted-all older possible.1)
  counted-all (Changes (StDone object number) ∷ older) possible =
      let rest = counted-all older possible.1 in
      record { distinct = rest.distinct; none = rest.none; counts = rest.counts }
  counted-all (Reads other v ∷ older) possible = counted-read other v older (counted-all older possible.1)

  pub counts-each : (happenings : List Happening) → Possible rows happenings → (row : KnownRow) (now : Trackers) → known_of id (after happenings) ≡ Some row → row.trackers ≡ Some now
      → (begun : Trackers) × (began_with id rows happenings ≡ Some begun) × CountEach begun (under happenings) now
  counts-each happenings possible row now e t =
      let c = (counted-all happenings possible).counts row now e t in
      (c.0, c.1, (c.2.0, (λ l. (c.2.1 l).0), c.2.2))
