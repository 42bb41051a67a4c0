-- What a copy keeps after a change, and after a read.
use Rattle.std.proofs.Common.{◌≡◌, ℕ, max, Bool, true, false, cond, not, ◌&&◌, nat_eq, nat_lt, List, [], ◌∷◌, map, filter, Option, Some, None, refl, sym, ap, ◌∙◌, true≢false, eq-eqb, eqb-true, arith}
use Rattle.std.specs.List.{filter_map, cons_option}
use Rattle.std.specs.Option.{option_map, option_eq}
use Rattle.cds_object.specs.Object.{ObjectRow}
use Rattle.cds_object.specs.declared.row.Trackers.{Trackers}
use Rattle.cds_object.specs.declared.event.Class.{Class}
use Rattle.cds_object.specs.declared.event.Event.{Event}
use Rattle.cds_object.specs.declared.event.Event.TheVariants.{ObjAdd, ObjMod, ObjDel, StDone}
use Rattle.cds_load.specs.Stages.{put_by}
use Rattle.cds_follow.specs.Copy.{Version, KnownRow, knows, knows_container, counted, parent_in, added_row, put_known, changed, counts_addition, counts_modification, counts_deletion, newer, read_anew, Happening, Changes, Reads, rows_after, marks, since_deletion}
use Rattle.cds_replica.specs.CopyState.{KeptRow, AreDistinct, IsSound, kept_id, greatest, shows, wanted_at, shown_at, kept_row}
use Rattle.cds_replica.specs.CopySteps.{counted_rows, wanted_rows, new_row, rows_without, rows_changed, read_of_row, rows_read}
use Rattle.cds_replica.proofs.KeptIds.{swapped-eq, neither, not-false, knows-counted, knows-added, knows-deleted, knows-read}

abbrev pub Unmarked : ℕ → List Happening → Type 0
Unmarked id happenings = (wanted_at id happenings ≡ 0) × (shown_at id happenings ≡ 0)

differs : (id other : ℕ) (rows : List KnownRow) → knows other rows ≡ true → knows id rows ≡ false → nat_eq other id ≡ false
differs id other rows there absent = by (nat_eq other id) refl
  where
    by : (b : Bool) → nat_eq other id ≡ b → b ≡ false
    by true e = absurd (true≢false (sym there ∙ ap (λ (n : ℕ). knows n rows) (eqb-true other id e) ∙ absent))
    by false e = refl

-- what does not stand has no numbers
pub unmarked : (rows : List ObjectRow) (happenings : List Happening) → IsSound rows happenings → (id : ℕ) → knows id (rows_after rows happenings) ≡ false
    → Unmarked id happenings
unmarked rows [] sound id e = (refl, refl)
unmarked rows (Changes (ObjAdd other n st parent class) ∷ older) sound id e =
    let both = neither (nat_eq other id) (knows id (rows_after rows older)) (sym (knows-added id other n st parent (added_row other n parent class) (rows_after rows older)) ∙ e) in
    let before = unmarked rows older sound.2 id both.1 in
    ((λ i. greatest (cons_option (cond (both.0 i) (Some n) None) (filter_map (marks id) (since_deletion id older)))) ∙ before.0, before.1)
unmarked rows (Changes (ObjMod other n st) ∷ older) sound id e =
    let known = rows_after rows older in
    let absent = sym (knows-counted id (counts_modification n) (parent_in other known) known) ∙ e in
    let there = not-false (knows other known) (neither (nat_eq other 0) (not (knows other known)) sound.0).1 in
    let before = unmarked rows older sound.2 id absent in
    ((λ i. greatest (cons_option (cond (differs id other known there absent i) (Some n) None) (filter_map (marks id) (since_deletion id older)))) ∙ before.0, before.1)
unmarked rows (Changes (ObjDel other n st) ∷ older) sound id e = by (nat_eq other id) refl (λ absent. unmarked rows older sound.2 id absent)
  where
    still : nat_eq other id ≡ false → knows id (rows_after rows older) ≡ false
    still x = on (nat_eq id other) (swapped-eq id other ∙ x) (sym (knows-deleted id other n (parent_in other (rows_after rows older)) (rows_after rows older)) ∙ e)
      where
        on : (b : Bool) → b ≡ false → not b && knows id (rows_after rows older) ≡ false → knows id (rows_after rows older) ≡ false
        on true y f = absurd (true≢false y)
        on false y f = f

    by : (b : Bool) → nat_eq other id ≡ b → (knows id (rows_after rows older) ≡ false → Unmarked id older)
        → (greatest (filter_map (marks id) (cond b [] (Changes (ObjDel other n st) ∷ since_deletion id older))) ≡ 0)
        × (greatest (filter_map (shows id) (cond b [] (Changes (ObjDel other n st) ∷ since_deletion id older))) ≡ 0)
    by true x r = (refl, refl)
    by false x r = r (still x)
unmarked rows (Changes (StDone other n) ∷ older) sound id e = unmarked rows older sound.2 id e
unmarked rows (Reads other v ∷ older) sound id e =
    let known = rows_after rows older in
    let absent = sym (knows-read id other v known) ∙ e in
    let before = unmarked rows older sound.1 id absent in
    (before.0, (λ i. greatest (cons_option (cond (differs id other known sound.0 absent i) (Some v.object_update) None) (filter_map (shows id) (since_deletion id older)))) ∙ before.1)

-- ---- rows one by one

pub rows-of : (happenings : List Happening) (rows : List KnownRow) → map (λ (kept : KeptRow). kept.row) (map (kept_row happenings) rows) ≡ rows
rows-of happenings [] = refl
rows-of happenings (row ∷ rows) = ap (λ (rest : List KnownRow). row ∷ rest) (rows-of happenings rows)

kept-counted : (h : List Happening) (f : Trackers → Trackers) (parent : Option ℕ) (rows : List KnownRow)
    → map (kept_row h) (counted f parent rows) ≡ counted_rows f parent (map (kept_row h) rows)
kept-counted h f parent [] = refl
kept-counted h f parent (row ∷ rows) = λ i. one (option_eq nat_eq (Some row.id) parent) i ∷ kept-counted h f parent rows i
  where
    one : (b : Bool) → kept_row h (cond b (record row { trackers = option_map f row.trackers }) row)
        ≡ cond b (record (kept_row h row) { row = record row { trackers = option_map f row.trackers } }) (kept_row h row)
    one true = refl
    one false = refl

kept-put : (h : List Happening) (new : KnownRow) (rows : List KnownRow) → map (kept_row h) (put_known new rows) ≡ put_by kept_id (kept_row h new) (map (kept_row h) rows)
kept-put h new [] = refl
kept-put h new (next ∷ rows) = by (nat_lt new.id next.id) (kept-put h new rows)
  where
    by : (b : Bool) → map (kept_row h) (put_known new rows) ≡ put_by kept_id (kept_row h new) (map (kept_row h) rows)
        → map (kept_row h) (cond b (new ∷ next ∷ rows) (next ∷ put_known new rows))
        ≡ cond b (kept_row h new ∷ kept_row h next ∷ map (kept_row h) rows) (kept_row h next ∷ put_by kept_id (kept_row h new) (map (kept_row h) rows))
    by true r = refl
    by false r = ap (λ (rest : List KeptRow). kept_row h next ∷ rest) r

kept-without : (h : List Happening) (id : ℕ) (rows : List KnownRow)
    → map (kept_row h) (filter (λ (row : KnownRow). not (nat_eq row.id id)) rows) ≡ rows_without id (map (kept_row h) rows)
kept-without h id [] = refl
kept-without h id (row ∷ rows) = by (not (nat_eq row.id id)) (kept-without h id rows)
  where
    by : (b : Bool) → map (kept_row h) (filter (λ (r : KnownRow). not (nat_eq r.id id)) rows) ≡ rows_without id (map (kept_row h) rows)
        → map (kept_row h) (cond b (row ∷ filter (λ (r : KnownRow). not (nat_eq r.id id)) rows) (filter (λ (r : KnownRow). not (nat_eq r.id id)) rows))
        ≡ cond b (kept_row h row ∷ rows_without id (map (kept_row h) rows)) (rows_without id (map (kept_row h) rows))
    by true r = ap (λ (rest : List KeptRow). kept_row h row ∷ rest) r
    by false r = r

-- rows of other ids keep their numbers at an addition, and at a deletion
kept-added : (id n : ℕ) (st : Bool) (parent : ℕ) (class : Class) (older : List Happening) (rows : List KnownRow) → knows id rows ≡ false
    → map (kept_row (Changes (ObjAdd id n st parent class) ∷ older)) rows ≡ map (kept_row older) rows
kept-added id n st parent class older [] e = refl
kept-added id n st parent class older (row ∷ rows) e =
    let both = neither (nat_eq row.id id) (knows id rows) e in
    let x = swapped-eq id row.id ∙ both.0 in
    λ i. record {
      row = row;
      wanted = greatest (cons_option (cond (x i) (Some n) None) (filter_map (marks row.id) (since_deletion row.id older)));
      shown = shown_at row.id older;
    } ∷ kept-added id n st parent class older rows both.1 i

kept-deleted : (id n : ℕ) (st : Bool) (older : List Happening) (rows : List KnownRow) → knows id rows ≡ false
    → map (kept_row (Changes (ObjDel id n st) ∷ older)) rows ≡ map (kept_row older) rows
kept-deleted id n st older [] e = refl
kept-deleted id n st older (row ∷ rows) e =
    let both = neither (nat_eq row.id id) (knows id rows) e in
    let x = swapped-eq id row.id ∙ both.0 in
    λ i. record {
      row = row;
      wanted = greatest (filter_map (marks row.id) (cond (x i) [] (Changes (ObjDel id n st) ∷ since_deletion row.id older)));
      shown = greatest (filter_map (shows row.id) (cond (x i) [] (Changes (ObjDel id n st) ∷ since_deletion row.id older)));
    } ∷ kept-deleted id n st older rows both.1 i

kept-modified : (id n : ℕ) (st : Bool) (older : List Happening) (rows : List KnownRow)
    → map (kept_row (Changes (ObjMod id n st) ∷ older)) rows ≡ wanted_rows id n (map (kept_row older) rows)
kept-modified id n st older [] = refl
kept-modified id n st older (row ∷ rows) = λ i. one (nat_eq id row.id) i ∷ kept-modified id n st older rows i
  where
    one : (b : Bool) → ◌≡◌ {A = KeptRow} (record {
      row = row;
      wanted = greatest (cons_option (cond b (Some n) None) (filter_map (marks row.id) (since_deletion row.id older)));
      shown = shown_at row.id older;
    }) (cond b (record (kept_row older row) { wanted = max n (wanted_at row.id older) }) (kept_row older row))
    one true = refl
    one false = refl

kept-new : (id n : ℕ) (st : Bool) (parent : ℕ) (class : Class) (older : List Happening) → Unmarked id older
    → kept_row (Changes (ObjAdd id n st parent class) ∷ older) (added_row id n parent class) ≡ new_row id n parent class
kept-new id n st parent class older none =
    λ i. record { row = added_row id n parent class; wanted = number i; shown = none.1 i }
  where
    top : greatest (cons_option (cond (nat_eq id id) (Some n) None) (filter_map (marks id) (since_deletion id older))) ≡ max n (wanted_at id older)
    top = λ i. greatest (cons_option (cond (eq-eqb id id refl i) (Some n) None) (filter_map (marks id) (since_deletion id older)))

    number : greatest (cons_option (cond (nat_eq id id) (Some n) None) (filter_map (marks id) (since_deletion id older))) ≡ n
    number = top ∙ (let zero = none.0 in omega (arith, zero))

-- ---- a change

and-not : (b c : Bool) → b ≡ true → not b && c ≡ false
and-not true c e = refl
and-not false c e = absurd (true≢false (sym e))

pub change-kept : (rows : List ObjectRow) (event : Event) (older : List Happening) → IsSound rows (Changes event ∷ older)
    → map (kept_row (Changes event ∷ older)) (changed (rows_after rows older) event) ≡ rows_changed (map (kept_row older) (rows_after rows older)) event
change-kept rows (ObjAdd id n st parent class) older sound =
    let known = rows_after rows older in
    let now = counted (counts_addition n) (Some parent) known in
    let absent = (neither (knows id known) (not (knows_container parent known)) sound.0).0 in
    kept-put (Changes (ObjAdd id n st parent class) ∷ older) (added_row id n parent class) now
    ∙ (λ i. put_by kept_id (kept-new id n st parent class older (unmarked rows older sound.2 id absent) i)
    (kept-added id n st parent class older now (knows-counted id (counts_addition n) (Some parent) known ∙ absent) i))
    ∙ ap (put_by kept_id (new_row id n parent class)) (kept-counted older (counts_addition n) (Some parent) known)
change-kept rows (ObjMod id n st) older sound =
    let known = rows_after rows older in
    kept-modified id n st older (counted (counts_modification n) (parent_in id known) known)
    ∙ ap (wanted_rows id n) (kept-counted older (counts_modification n) (parent_in id known) known)
    ∙ ap (λ (l : List KnownRow). wanted_rows id n (counted_rows (counts_modification n) (parent_in id l) (map (kept_row older) known))) (sym (rows-of older known))
change-kept rows (ObjDel id n st) older sound =
    let known = rows_after rows older in
    let left = filter (λ (row : KnownRow). not (nat_eq row.id id)) known in
    kept-deleted id n st older (counted (counts_deletion n) (parent_in id known) left)
    (knows-deleted id id n (parent_in id known) known ∙ and-not (nat_eq id id) (knows id known) (eq-eqb id id refl))
    ∙ kept-counted older (counts_deletion n) (parent_in id known) left
    ∙ ap (counted_rows (counts_deletion n) (parent_in id known)) (kept-without older id known)
    ∙ ap (λ (l : List KnownRow). counted_rows (counts_deletion n) (parent_in id l) (rows_without id (map (kept_row older) known))) (sym (rows-of older known))
change-kept rows (StDone id n) older sound = refl

-- ---- a read

kept-unread : (id : ℕ) (v : Version) (older : List Happening) (rows : List KnownRow) → knows id rows ≡ false
    → map (kept_row (Reads id v ∷ older)) (read_anew rows id v) ≡ map (kept_row older) rows
kept-unread id v older [] e = refl
kept-unread id v older (row ∷ rows) e =
    let both = neither (nat_eq row.id id) (knows id rows) e in
    (λ i. kept_row (Reads id v ∷ older) (cond (both.0 i) (record row { says = Some (newer v row.says) }) row) ∷ map (kept_row (Reads id v ∷ older)) (read_anew rows id v))
    ∙ (λ i. record {
      row = row;
      wanted = wanted_at row.id older;
      shown = greatest (cons_option (cond ((swapped-eq id row.id ∙ both.0) i) (Some v.object_update) None) (filter_map (shows row.id) (since_deletion row.id older)));
    } ∷ kept-unread id v older rows both.1 i)

pub read-kept : (id : ℕ) (v : Version) (older : List Happening) (rows : List KnownRow) → AreDistinct rows
    → map (kept_row (Reads id v ∷ older)) (read_anew rows id v) ≡ rows_read id v (map (kept_row older) rows)
read-kept id v older [] all = refl
read-kept id v older (row ∷ rows) all = by (nat_eq row.id id) refl (read-kept id v older rows all.1)
  where
    by : (b : Bool) → nat_eq row.id id ≡ b → map (kept_row (Reads id v ∷ older)) (read_anew rows id v) ≡ rows_read id v (map (kept_row older) rows)
        → kept_row (Reads id v ∷ older) (cond (nat_eq row.id id) (record row { says = Some (newer v row.says) }) row) ∷ map (kept_row (Reads id v ∷ older)) (read_anew rows id v)
        ≡ cond (nat_eq id row.id) (read_of_row v (kept_row older row) ∷ map (kept_row older) rows) (kept_row older row ∷ rows_read id v (map (kept_row older) rows))
    by true x r =
        (λ i. kept_row (Reads id v ∷ older) (cond (x i) (record row { says = Some (newer v row.says) }) row) ∷ map (kept_row (Reads id v ∷ older)) (read_anew rows id v))
        ∙ (λ i. record {
          row = record row { says = Some (newer v row.says) };
          wanted = wanted_at row.id older;
          shown = greatest (cons_option (cond ((swapped-eq id row.id ∙ x) i) (Some v.object_update) None) (filter_map (shows row.id) (since_deletion row.id older)));
        } ∷ kept-unread id v older rows (ap (λ (n : ℕ). knows n rows) (sym (eqb-true row.id id x)) ∙ all.0) i)
        ∙ (λ i. cond (sym (swapped-eq id row.id ∙ x) i) (read_of_row v (kept_row older row) ∷ map (kept_row older) rows) (kept_row older row ∷ rows_read id v (map (kept_row older) rows)))
    by false x r =
        (λ i. kept_row (Reads id v ∷ older) (cond (x i) (record row { says = Some (newer v row.says) }) row) ∷ map (kept_row (Reads id v ∷ older)) (read_anew rows id v))
        ∙ (λ i. record {
          row = row;
          wanted = wanted_at row.id older;
          shown = greatest (cons_option (cond ((swapped-eq id row.id ∙ x) i) (Some v.object_update) None) (filter_map (shows row.id) (since_deletion row.id older)));
        } ∷ r i)
        ∙ (λ i. cond (sym (swapped-eq id row.id ∙ x) i) (read_of_row v (kept_row older row) ∷ map (kept_row older) rows) (kept_row older row ∷ rows_read id v (map (kept_row older) rows)))
