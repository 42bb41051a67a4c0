-- Which ids stand in the rows of a copy after a change or a read.
use Rattle.std.proofs.Common.{◌≡◌, ℕ, Bool, true, false, cond, not, ◌&&◌, ◌||◌, nat_eq, nat_lt, List, [], ◌∷◌, filter, Option, Some, refl, sym, ap, ◌∙◌, true≢false, eq-eqb, eqb-true}
use Rattle.std.specs.Option.{option_map, option_eq}
use Rattle.cds_object.specs.Object.{ObjectRow}
use Rattle.cds_object.specs.declared.row.Trackers.{Trackers}
use Rattle.cds_object.specs.declared.event.Event.{Event}
use Rattle.cds_object.specs.declared.event.Event.TheVariants.{ObjAdd, ObjMod, ObjDel, StDone}
use Rattle.cds_follow.specs.Copy.{Version, KnownRow, knows, knows_container, knows_child, counted, parent_in, added_row, put_known, cannot_be, changed, counts_addition, counts_modification, counts_deletion, newer, read_anew, Happening, Changes, Reads, rows_after}
use Rattle.cds_replica.specs.CopyState.{AreDistinct, IsSound}

pub swapped-eq : (a b : ℕ) → nat_eq a b ≡ nat_eq b a
swapped-eq a b = by (nat_eq a b) (nat_eq b a) refl refl
  where
    by : (c d : Bool) → nat_eq a b ≡ c → nat_eq b a ≡ d → c ≡ d
    by true true e f = refl
    by false false e f = refl
    by true false e f = absurd (true≢false (sym (eq-eqb b a (sym (eqb-true a b e))) ∙ f))
    by false true e f = absurd (true≢false (sym (eq-eqb a b (sym (eqb-true b a f))) ∙ e))

pub neither : (a b : Bool) → a || b ≡ false → (a ≡ false) × (b ≡ false)
neither true b e = absurd (true≢false e)
neither false b e = (refl, e)

pub not-false : (a : Bool) → not a ≡ false → a ≡ true
not-false true e = refl
not-false false e = absurd (true≢false e)

or-swap : (a b c : Bool) → a || (b || c) ≡ b || (a || c)
or-swap true true c = refl
or-swap true false c = refl
or-swap false true c = refl
or-swap false false c = refl

-- ---- the ids after one change

pub knows-counted : (id : ℕ) (f : Trackers → Trackers) (parent : Option ℕ) (rows : List KnownRow) → knows id (counted f parent rows) ≡ knows id rows
knows-counted id f parent [] = refl
knows-counted id f parent (row ∷ rows) = λ i. nat_eq (one (option_eq nat_eq (Some row.id) parent) i) id || knows-counted id f parent rows i
  where
    one : (b : Bool) → (cond b (record row { trackers = option_map f row.trackers }) row).id ≡ row.id
    one true = refl
    one false = refl

pub knows-put : (id : ℕ) (new : KnownRow) (rows : List KnownRow) → knows id (put_known new rows) ≡ nat_eq new.id id || knows id rows
knows-put id new [] = refl
knows-put id new (next ∷ rows) = by (nat_lt new.id next.id) (knows-put id new rows)
  where
    by : (b : Bool) → knows id (put_known new rows) ≡ nat_eq new.id id || knows id rows
        → knows id (cond b (new ∷ next ∷ rows) (next ∷ put_known new rows)) ≡ nat_eq new.id id || (nat_eq next.id id || knows id rows)
    by true r = refl
    by false r = ap (λ (c : Bool). nat_eq next.id id || c) r ∙ or-swap (nat_eq next.id id) (nat_eq new.id id) (knows id rows)

pub knows-without : (id other : ℕ) (rows : List KnownRow) → knows id (filter (λ (row : KnownRow). not (nat_eq row.id other)) rows) ≡ not (nat_eq id other) && knows id rows
knows-without id other [] = nothing (nat_eq id other)
  where
    nothing : (b : Bool) → false ≡ not b && false
    nothing true = refl
    nothing false = refl
knows-without id other (row ∷ rows) = by (nat_eq row.id other) (nat_eq row.id id) (nat_eq id other) refl refl refl (knows-without id other rows)
  where
    by : (a b c : Bool) → nat_eq row.id other ≡ a → nat_eq row.id id ≡ b → nat_eq id other ≡ c
        → knows id (filter (λ (r : KnownRow). not (nat_eq r.id other)) rows) ≡ not c && knows id rows
        → knows id (cond (not a) (row ∷ filter (λ (r : KnownRow). not (nat_eq r.id other)) rows) (filter (λ (r : KnownRow). not (nat_eq r.id other)) rows)) ≡ not c && (b || knows id rows)
    by true true true x y z r = r
    by true true false x y z r = absurd (true≢false (sym x ∙ ap (λ (n : ℕ). nat_eq n other) (eqb-true row.id id y) ∙ z))
    by true false c x y z r = r
    by false true true x y z r = absurd (true≢false (sym z ∙ ap (λ (n : ℕ). nat_eq n other) (sym (eqb-true row.id id y)) ∙ x))
    by false true false x y z r = ap (λ (b : Bool). b || knows id (filter (λ (r : KnownRow). not (nat_eq r.id other)) rows)) y
    by false false true x y z r = ap (λ (b : Bool). b || knows id (filter (λ (r : KnownRow). not (nat_eq r.id other)) rows)) y ∙ r
    by false false false x y z r = ap (λ (b : Bool). b || knows id (filter (λ (r : KnownRow). not (nat_eq r.id other)) rows)) y ∙ r

pub knows-read : (id other : ℕ) (v : Version) (rows : List KnownRow) → knows id (read_anew rows other v) ≡ knows id rows
knows-read id other v [] = refl
knows-read id other v (row ∷ rows) = λ i. nat_eq (one (nat_eq row.id other) i) id || knows-read id other v rows i
  where
    one : (b : Bool) → (cond b (record row { says = Some (newer v row.says) }) row).id ≡ row.id
    one true = refl
    one false = refl

-- the ids after an addition, and after a deletion
pub knows-added : (id other number : ℕ) (st : Bool) (parent : ℕ) (row : KnownRow) (rows : List KnownRow)
    → knows id (put_known row (counted (counts_addition number) (Some parent) rows)) ≡ nat_eq row.id id || knows id rows
knows-added id other number st parent row rows =
    knows-put id row (counted (counts_addition number) (Some parent) rows) ∙ ap (λ (b : Bool). nat_eq row.id id || b) (knows-counted id (counts_addition number) (Some parent) rows)

pub knows-deleted : (id other number : ℕ) (parent : Option ℕ) (rows : List KnownRow)
    → knows id (counted (counts_deletion number) parent (filter (λ (row : KnownRow). not (nat_eq row.id other)) rows)) ≡ not (nat_eq id other) && knows id rows
knows-deleted id other number parent rows =
    knows-counted id (counts_deletion number) parent (filter (λ (row : KnownRow). not (nat_eq row.id other)) rows) ∙ knows-without id other rows

-- ---- the root stays

or-right : (a b : Bool) → b ≡ true → a || b ≡ true
or-right true b e = refl
or-right false b e = e

and-both : (a b : Bool) → a ≡ true → b ≡ true → a && b ≡ true
and-both true b e f = f
and-both false b e f = e

not-is : (a : Bool) → a ≡ false → not a ≡ true
not-is true e = sym e
not-is false e = refl

pub root-stays : (rows : List KnownRow) (event : Event) → cannot_be rows event ≡ false → knows 0 rows ≡ true → knows 0 (changed rows event) ≡ true
root-stays rows (ObjAdd id number st parent class) can e =
    knows-added 0 id number st parent (added_row id number parent class) rows ∙ or-right (nat_eq id 0) (knows 0 rows) e
root-stays rows (ObjMod id number st) can e = knows-counted 0 (counts_modification number) (parent_in id rows) rows ∙ e
root-stays rows (ObjDel id number st) can e =
    let others = (neither (nat_eq id 0 || not (knows id rows)) (knows_child id rows) can).0 in
    let apart = (neither (nat_eq id 0) (not (knows id rows)) others).0 in
    knows-deleted 0 id number (parent_in id rows) rows
    ∙ and-both (not (nat_eq 0 id)) (knows 0 rows) (not-is (nat_eq 0 id) (swapped-eq 0 id ∙ apart)) e
root-stays rows (StDone id number) can e = e

pub root-stands : (rows : List ObjectRow) (happenings : List Happening) → IsSound rows happenings → knows 0 (rows_after rows happenings) ≡ true
root-stands rows [] sound = sound.0
root-stands rows (Changes event ∷ older) sound = root-stays (rows_after rows older) event sound.0 (root-stands rows older sound.2)
root-stands rows (Reads id v ∷ older) sound = knows-read 0 id v (rows_after rows older) ∙ root-stands rows older sound.1

-- ---- the ids stay distinct

distinct-counted : (f : Trackers → Trackers) (parent : Option ℕ) (rows : List KnownRow) → AreDistinct rows → AreDistinct (counted f parent rows)
distinct-counted f parent [] all = tt
distinct-counted f parent (row ∷ rows) all =
    (by (option_eq nat_eq (Some row.id) parent), distinct-counted f parent rows all.1)
  where
    by : (b : Bool) → knows (cond b (record row { trackers = option_map f row.trackers }) row).id (counted f parent rows) ≡ false
    by true = knows-counted row.id f parent rows ∙ all.0
    by false = knows-counted row.id f parent rows ∙ all.0

pub distinct-put : (new : KnownRow) (rows : List KnownRow) → knows new.id rows ≡ false → AreDistinct rows → AreDistinct (put_known new rows)
distinct-put new [] absent all = (refl, tt)
distinct-put new (next ∷ rows) absent all = by (nat_lt new.id next.id) (distinct-put new rows apart.1 all.1)
  where
    apart : (nat_eq next.id new.id ≡ false) × (knows new.id rows ≡ false)
    apart = neither (nat_eq next.id new.id) (knows new.id rows) absent

    by : (b : Bool) → AreDistinct (put_known new rows) → AreDistinct (cond b (new ∷ next ∷ rows) (next ∷ put_known new rows))
    by true r = (absent, all)
    by false r = (knows-put next.id new rows ∙ (λ i. (swapped-eq new.id next.id ∙ apart.0) i || all.0 i), r)

without-still : (id other : ℕ) (rows : List KnownRow) → knows id rows ≡ false → knows id (filter (λ (row : KnownRow). not (nat_eq row.id other)) rows) ≡ false
without-still id other rows e = knows-without id other rows ∙ ap (λ (b : Bool). not (nat_eq id other) && b) e ∙ nothing (not (nat_eq id other))
  where
    nothing : (b : Bool) → b && false ≡ false
    nothing true = refl
    nothing false = refl

distinct-without : (other : ℕ) (rows : List KnownRow) → AreDistinct rows → AreDistinct (filter (λ (row : KnownRow). not (nat_eq row.id other)) rows)
distinct-without other [] all = tt
distinct-without other (row ∷ rows) all = by (not (nat_eq row.id other)) (distinct-without other rows all.1)
  where
    by : (b : Bool) → AreDistinct (filter (λ (r : KnownRow). not (nat_eq r.id other)) rows)
        → AreDistinct (cond b (row ∷ filter (λ (r : KnownRow). not (nat_eq r.id other)) rows) (filter (λ (r : KnownRow). not (nat_eq r.id other)) rows))
    by true r = (without-still row.id other rows all.0, r)
    by false r = r

distinct-read : (id : ℕ) (v : Version) (rows : List KnownRow) → AreDistinct rows → AreDistinct (read_anew rows id v)
distinct-read id v [] all = tt
distinct-read id v (row ∷ rows) all = (by (nat_eq row.id id), distinct-read id v rows all.1)
  where
    by : (b : Bool) → knows (cond b (record row { says = Some (newer v row.says) }) row).id (read_anew rows id v) ≡ false
    by true = knows-read row.id id v rows ∙ all.0
    by false = knows-read row.id id v rows ∙ all.0

distinct-change : (rows : List KnownRow) (event : Event) → cannot_be rows event ≡ false → AreDistinct rows → AreDistinct (changed rows event)
distinct-change rows (ObjAdd id number st parent class) can all =
    let absent = (neither (knows id rows) (not (knows_container parent rows)) can).0 in
    distinct-put (added_row id number parent class) (counted (counts_addition number) (Some parent) rows)
    (knows-counted id (counts_addition number) (Some parent) rows ∙ absent)
    (distinct-counted (counts_addition number) (Some parent) rows all)
distinct-change rows (ObjMod id number st) can all = distinct-counted (counts_modification number) (parent_in id rows) rows all
distinct-change rows (ObjDel id number st) can all =
    distinct-counted (counts_deletion number) (parent_in id rows) (filter (λ (row : KnownRow). not (nat_eq row.id id)) rows) (distinct-without id rows all)
distinct-change rows (StDone id number) can all = all

pub distinct-after : (rows : List ObjectRow) (happenings : List Happening) → IsSound rows happenings → AreDistinct (rows_after rows happenings)
distinct-after rows [] sound = sound.1
distinct-after rows (Changes event ∷ older) sound = distinct-change (rows_after rows older) event sound.0 (distinct-after rows older sound.2)
distinct-after rows (Reads id v ∷ older) sound = distinct-read id v (rows_after rows older) (distinct-after rows older sound.1)
