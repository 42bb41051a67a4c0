-- What befell a copy, where each change could be: what is known of an id, and of what was read of it.
use Rattle.std.proofs.Common.{◌≡◌, ◌≤◌, ℕ, Bool, true, false, cond, not, ◌&&◌, ◌||◌, nat_eq, nat_lt, nat_le, List, [], ◌∷◌, ◌++◌, map, filter, Option, Some, None, refl, sym, ap, ◌∙◌, subst, arith, true≢false, eq-eqb, eqb-true, ne_eqb, leb-true, ltb-true, ltb-false, append_assoc}
use Rattle.std.specs.List.{AllByRecursion, list_any, filter_map, cons_option}
use Rattle.std.specs.Option.{option_map, option_eq}
use Rattle.std.proofs.lemmas.Bool.{eqb-false}
use Rattle.std.proofs.lemmas.List.{reverse-append}
use Rattle.cds_object.specs.Object.{ObjectRow}
use Rattle.cds_object.specs.declared.row.Trackers.{Trackers}
use Rattle.cds_object.specs.declared.event.Event.{Event}
use Rattle.cds_object.specs.declared.event.Event.TheVariants.{ObjAdd, ObjMod, ObjDel, StDone}
use Rattle.cds_catalog.proofs.StepsFind.{none≢some}
use Rattle.cds_follow.specs.Copy.{Version, KnownRow, known_of, knows, knows_container, counted, counts_addition, counts_modification, counts_deletion, parent_in, added_row, put_known, cannot_be, changed, newer, read_anew, Happening, Changes, Reads, rows_after, deletes, marks, shows_from, since_deletion}
use Rattle.cds_follow.specs.Follow.{first_torn}
use Rattle.cds_follow.specs.StepLaws.{changed_by}
use Rattle.cds_follow.specs.ServerLaws.{befalling}
use Rattle.cds_commands.proofs.Among.{Among}
use Rattle.cds_object.specs.Events.{object_of}

-- ---- what is known of an id after one change

-- what is known of an id stays known, and what it says
abbrev pub Keeps : ℕ → List KnownRow → List KnownRow → Type 0
Keeps id rows now = (row : KnownRow) → known_of id rows ≡ Some row → (kept : KnownRow) × (known_of id now ≡ Some kept) × (kept.says ≡ row.says)

keeps-counted : (id : ℕ) (f : Trackers → Trackers) (parent : Option ℕ) (rows : List KnownRow) → Keeps id rows (counted f parent rows)
keeps-counted id f parent [] row e = none≢some None row refl e
keeps-counted id f parent (next ∷ rows) row e = by (option_eq nat_eq (Some next.id) parent) (nat_eq next.id id) refl e (λ k. keeps-counted id f parent rows row k)
  where
    by : (c b : Bool) → nat_eq next.id id ≡ b → cond b (Some next) (known_of id rows) ≡ Some row
        → (known_of id rows ≡ Some row → (kept : KnownRow) × (known_of id (counted f parent rows) ≡ Some kept) × (kept.says ≡ row.says))
        → (kept : KnownRow) × (known_of id (cond c (record next { trackers = option_map f next.trackers }) next ∷ counted f parent rows) ≡ Some kept) × (kept.says ≡ row.says)
    by true true x k r =
        let same : next ≡ row = cc in
        (record next { trackers = option_map f next.trackers }, (λ i. cond (x i) (Some (record next { trackers = option_map f next.trackers })) (known_of id (counted f parent rows))), ap (λ (y : KnownRow). y.says) same)
    by false true x k r =
        let same : next ≡ row = cc in
        (next, (λ i. cond (x i) (Some next) (known_of id (counted f parent rows))), ap (λ (y : KnownRow). y.says) same)
    by true false x k r =
        let rest = r k in
        (rest.0, (λ i. cond (x i) (Some (record next { trackers = option_map f next.trackers })) (known_of id (counted f parent rows))) ∙ rest.1, rest.2)
    by false false x k r =
        let rest = r k in
        (rest.0, (λ i. cond (x i) (Some next) (known_of id (counted f parent rows))) ∙ rest.1, rest.2)

pub put-other : (id : ℕ) (new : KnownRow) (rows : List KnownRow) → nat_eq new.id id ≡ false → known_of id (put_known new rows) ≡ known_of id rows
put-other id new [] x = λ i. cond (x i) (Some new) None
put-other id new (next ∷ rows) x = by (nat_lt new.id next.id) (put-other id new rows x)
  where
    by : (b : Bool) → known_of id (put_known new rows) ≡ known_of id rows → known_of id (cond b (new ∷ next ∷ rows) (next ∷ put_known new rows)) ≡ known_of id (next ∷ rows)
    by true r = λ i. cond (x i) (Some new) (known_of id (next ∷ rows))
    by false r = ap (λ (o : Option KnownRow). cond (nat_eq next.id id) (Some next) o) r

put-it : (id : ℕ) (new : KnownRow) (rows : List KnownRow) → nat_eq new.id id ≡ true → (row : KnownRow) × (known_of id (put_known new rows) ≡ Some row)
put-it id new [] x = (new, (λ i. cond (x i) (Some new) None))
put-it id new (next ∷ rows) x = by (nat_lt new.id next.id) (put-it id new rows x)
  where
    on : (b : Bool) → nat_eq next.id id ≡ b → (row : KnownRow) × (known_of id (put_known new rows) ≡ Some row)
        → (row : KnownRow) × (known_of id (next ∷ put_known new rows) ≡ Some row)
    on true e r = (next, (λ i. cond (e i) (Some next) (known_of id (put_known new rows))))
    on false e r = (r.0, (λ i. cond (e i) (Some next) (known_of id (put_known new rows))) ∙ r.1)

    by : (b : Bool) → (row : KnownRow) × (known_of id (put_known new rows) ≡ Some row)
        → (row : KnownRow) × (known_of id (cond b (new ∷ next ∷ rows) (next ∷ put_known new rows)) ≡ Some row)
    by true r = (new, (λ i. cond (x i) (Some new) (known_of id (next ∷ rows))))
    by false r = on (nat_eq next.id id) refl r

pub keeps-others : (id other : ℕ) (rows : List KnownRow) → nat_eq other id ≡ false → known_of id (filter (λ (row : KnownRow). not (nat_eq row.id other)) rows) ≡ known_of id rows
keeps-others id other [] x = refl
keeps-others id other (next ∷ rows) x = by (nat_eq next.id other) refl (keeps-others id other rows x)
  where
    by : (b : Bool) → nat_eq next.id other ≡ b → known_of id (filter (λ (row : KnownRow). not (nat_eq row.id other)) rows) ≡ known_of id rows
        → known_of id (cond (not b) (next ∷ filter (λ (row : KnownRow). not (nat_eq row.id other)) rows) (filter (λ (row : KnownRow). not (nat_eq row.id other)) rows))
        ≡ cond (nat_eq next.id id) (Some next) (known_of id rows)
    by true e r =
        r ∙ (λ i. cond (sym (ap (λ (n : ℕ). nat_eq n id) (eqb-true next.id other e) ∙ x) i) (Some next) (known_of id rows))
    by false e r = ap (λ (o : Option KnownRow). cond (nat_eq next.id id) (Some next) o) r

pub known-knows : (id : ℕ) (rows : List KnownRow) (row : KnownRow) → known_of id rows ≡ Some row → knows id rows ≡ true
known-knows id [] row e = none≢some None row refl e
known-knows id (next ∷ rows) row e = by (nat_eq next.id id) e (known-knows id rows row)
  where
    by : (b : Bool) → cond b (Some next) (known_of id rows) ≡ Some row → (known_of id rows ≡ Some row → knows id rows ≡ true) → b || knows id rows ≡ true
    by true k r = refl
    by false k r = r k

knows-known : (id : ℕ) (rows : List KnownRow) → knows id rows ≡ true → (row : KnownRow) × (known_of id rows ≡ Some row)
knows-known id [] e = absurd (true≢false (sym e))
knows-known id (next ∷ rows) e = by (nat_eq next.id id) e (knows-known id rows)
  where
    by : (b : Bool) → b || knows id rows ≡ true → (knows id rows ≡ true → (row : KnownRow) × (known_of id rows ≡ Some row))
        → (row : KnownRow) × (cond b (Some next) (known_of id rows) ≡ Some row)
    by true k r = (next, refl)
    by false k r = r k

pub neither : (a b : Bool) → a || b ≡ false → (a ≡ false) × (b ≡ false)
neither true b e = absurd (true≢false e)
neither false b e = (refl, e)

pub not-false : (a : Bool) → not a ≡ false → a ≡ true
not-false true e = refl
not-false false e = absurd (true≢false e)

-- a change that can be, and does not delete the id
pub keeps-change : (id : ℕ) (rows : List KnownRow) (event : Event) → cannot_be rows event ≡ false → deletes id (Changes event) ≡ false → Keeps id rows (changed rows event)
keeps-change id rows (ObjAdd other number st parent class) can kept row e =
    let absent = (neither (knows other rows) (not (knows_container parent rows)) can).0 in
    let apart : nat_eq other id ≡ false = ne_eqb other id (λ same. true≢false (sym (known-knows id rows row e) ∙ ap (λ (n : ℕ). knows n rows) (sym same) ∙ absent)) in
    let kept = keeps-counted id (counts_addition number) (Some parent) rows row e in
    (kept.0, put-other id (added_row other number parent class) (counted (counts_addition number) (Some parent) rows) apart ∙ kept.1, kept.2)
keeps-change id rows (ObjMod other number st) can kept row e = keeps-counted id (counts_modification number) (parent_in other rows) rows row e
keeps-change id rows (ObjDel other number st) can kept row e =
    keeps-counted id (counts_deletion number) (parent_in other rows) (filter (λ (r : KnownRow). not (nat_eq r.id other)) rows) row (keeps-others id other rows kept ∙ e)
keeps-change id rows (StDone other number) can kept row e = (row, e, refl)

-- and one that adds or modifies the id
marks-known : (id number : ℕ) (rows : List KnownRow) (event : Event) → cannot_be rows event ≡ false → marks id (Changes event) ≡ Some number
    → (row : KnownRow) × (known_of id (changed rows event) ≡ Some row)
marks-known id number rows (ObjAdd other n st parent class) can m = by (nat_eq other id) refl m
  where
    by : (b : Bool) → nat_eq other id ≡ b → cond b (Some n) None ≡ Some number → (row : KnownRow) × (known_of id (changed rows (ObjAdd other n st parent class)) ≡ Some row)
    by true e k = put-it id (added_row other n parent class) (counted (counts_addition n) (Some parent) rows) e
    by false e k = none≢some None number refl k
marks-known id number rows (ObjMod other n st) can m = by (nat_eq other id) refl m
  where
    by : (b : Bool) → nat_eq other id ≡ b → cond b (Some n) None ≡ Some number → (row : KnownRow) × (known_of id (changed rows (ObjMod other n st)) ≡ Some row)
    by true e k =
        let there = not-false (knows other rows) (neither (nat_eq other 0) (not (knows other rows)) can).1 in
        let found = knows-known id rows (ap (λ (x : ℕ). knows x rows) (sym (eqb-true other id e)) ∙ there) in
        let kept = keeps-counted id (counts_modification n) (parent_in other rows) rows found.0 found.1 in
        (kept.0, kept.1)
    by false e k = none≢some None number refl k
marks-known id number rows (ObjDel other n st) can m = none≢some None number refl m
marks-known id number rows (StDone other n) can m = none≢some None number refl m

-- ---- a read

-- a read of an object's own row
pub reads-known : (id other : ℕ) (v : Version) (rows : List KnownRow) (row : KnownRow) → known_of id rows ≡ Some row
    → (now : KnownRow) × (known_of id (read_anew rows other v) ≡ Some now)
    × (now.says ≡ cond (nat_eq other id) (Some (newer v row.says)) row.says)
reads-known id other v [] row e = none≢some None row refl e
reads-known id other v (next ∷ rows) row e = by (nat_eq next.id other) (nat_eq next.id id) refl refl e (λ k. reads-known id other v rows row k)
  where
    by : (c b : Bool) → nat_eq next.id other ≡ c → nat_eq next.id id ≡ b → cond b (Some next) (known_of id rows) ≡ Some row
        → (known_of id rows ≡ Some row → (now : KnownRow) × (known_of id (read_anew rows other v) ≡ Some now) × (now.says ≡ cond (nat_eq other id) (Some (newer v row.says)) row.says))
        → (now : KnownRow) × (known_of id (cond c (record next { says = Some (newer v next.says) }) next ∷ read_anew rows other v) ≡ Some now)
        × (now.says ≡ cond (nat_eq other id) (Some (newer v row.says)) row.says)
    by true true x y k r =
        let same : next ≡ row = cc in
        let one : other ≡ id = sym (eqb-true next.id other x) ∙ eqb-true next.id id y in (
          record next { says = Some (newer v next.says) },
          (λ i. cond (y i) (Some (record next { says = Some (newer v next.says) })) (known_of id (read_anew rows other v))),
          ap (λ (z : KnownRow). Some (newer v z.says)) same ∙ (λ i. cond (sym (eq-eqb other id one) i) (Some (newer v row.says)) row.says),
        )
    by false true x y k r =
        let same : next ≡ row = cc in
        let differ : nat_eq other id ≡ false = ne_eqb other id (λ one. eqb-false next.id other x (eqb-true next.id id y ∙ sym one)) in (
          next,
          (λ i. cond (y i) (Some next) (known_of id (read_anew rows other v))),
          ap (λ (z : KnownRow). z.says) same ∙ (λ i. cond (sym differ i) (Some (newer v row.says)) row.says),
        )
    by true false x y k r =
        let rest = r k in
        (rest.0, (λ i. cond (y i) (Some (record next { says = Some (newer v next.says) })) (known_of id (read_anew rows other v))) ∙ rest.1, rest.2)
    by false false x y k r =
        let rest = r k in
        (rest.0, (λ i. cond (y i) (Some next) (known_of id (read_anew rows other v))) ∙ rest.1, rest.2)

-- the newer of two versions is neither's older
pub newer-least : (v : Version) (o : Option Version) → v.object_update ≤ (newer v o).object_update
newer-least v None = omega arith
newer-least v (Some before) = by (nat_lt v.object_update before.object_update) refl
  where
    by : (b : Bool) → nat_lt v.object_update before.object_update ≡ b → v.object_update ≤ (cond b before v).object_update
    by true e = let l = ltb-true v.object_update before.object_update e in omega (arith, l)
    by false e = omega arith

pub newer-before : (v before : Version) → before.object_update ≤ (newer v (Some before)).object_update
newer-before v before = by (nat_lt v.object_update before.object_update) refl
  where
    by : (b : Bool) → nat_lt v.object_update before.object_update ≡ b → before.object_update ≤ (cond b before v).object_update
    by true e = omega arith
    by false e = let l = ltb-false v.object_update before.object_update e in omega (arith, l)

-- ---- what befell, where each change could be and each read was of what stood

abbrev pub Possible : List ObjectRow → List Happening → Type 0
Possible rows [] = Unit {0}
Possible rows (Changes event ∷ older) = (cannot_be (rows_after rows older) event ≡ false) × Possible rows older
Possible rows (Reads id v ∷ older) = ((row : KnownRow) × (known_of id (rows_after rows older) ≡ Some row)) × Possible rows older

-- what was marked since its last deletion is known
pub marked-known : (rows : List ObjectRow) (happenings : List Happening) → Possible rows happenings → (id number : ℕ)
    → Among number (filter_map (marks id) (since_deletion id happenings)) → (row : KnownRow) × (known_of id (rows_after rows happenings) ≡ Some row)
marked-known rows [] possible id number a = absurd a
marked-known rows (Changes event ∷ older) possible id number a =
    by (deletes id (Changes event)) (marks id (Changes event)) refl refl a (λ b. marked-known rows older possible.1 id number b)
  where
    still : deletes id (Changes event) ≡ false → (row : KnownRow) × (known_of id (rows_after rows older) ≡ Some row)
        → (row : KnownRow) × (known_of id (changed (rows_after rows older) event) ≡ Some row)
    still d r = let kept = keeps-change id (rows_after rows older) event possible.0 d r.0 r.1 in (kept.0, kept.1)

    by : (b : Bool) (o : Option ℕ) → deletes id (Changes event) ≡ b → marks id (Changes event) ≡ o
        → Among number (filter_map (marks id) (cond b [] (Changes event ∷ since_deletion id older)))
        → (Among number (filter_map (marks id) (since_deletion id older)) → (row : KnownRow) × (known_of id (rows_after rows older) ≡ Some row))
        → (row : KnownRow) × (known_of id (changed (rows_after rows older) event) ≡ Some row)
    by true o d m b r = absurd b
    by false None d m b r =
        still d (r (subst (λ (x : Option ℕ). Among number (cons_option x (filter_map (marks id) (since_deletion id older)))) m b))
    by false (Some n) d m b r = marks-known id n (rows_after rows older) event possible.0 m
marked-known rows (Reads other v ∷ older) possible id number a =
    let r = marked-known rows older possible.1 id number a in
    let now = reads-known id other v (rows_after rows older) r.0 r.1 in
    (now.0, now.1)

-- what was shown from a number on since its last deletion says at least this number
pub shown-says : (rows : List ObjectRow) (happenings : List Happening) → Possible rows happenings → (id number : ℕ)
    → list_any (shows_from id number) (since_deletion id happenings) ≡ true
    → (row : KnownRow) × (known_of id (rows_after rows happenings) ≡ Some row) × ((w : Version) × (row.says ≡ Some w) × (number ≤ w.object_update))
shown-says rows [] possible id number a = absurd (true≢false (sym a))
shown-says rows (Changes event ∷ older) possible id number a = by (deletes id (Changes event)) refl a (λ b. shown-says rows older possible.1 id number b)
  where
    by : (b : Bool) → deletes id (Changes event) ≡ b → list_any (shows_from id number) (cond b [] (Changes event ∷ since_deletion id older)) ≡ true
        → (list_any (shows_from id number) (since_deletion id older) ≡ true
        → (row : KnownRow) × (known_of id (rows_after rows older) ≡ Some row) × ((w : Version) × (row.says ≡ Some w) × (number ≤ w.object_update)))
        → (row : KnownRow) × (known_of id (changed (rows_after rows older) event) ≡ Some row) × ((w : Version) × (row.says ≡ Some w) × (number ≤ w.object_update))
    by true d b r = absurd (true≢false (sym b))
    by false d b r =
        let found = r b in
        let kept = keeps-change id (rows_after rows older) event possible.0 d found.0 found.1 in
        (kept.0, kept.1, (found.2.0, kept.2 ∙ found.2.1, found.2.2))
shown-says rows (Reads other v ∷ older) possible id number a = by (nat_eq other id) (nat_le number v.object_update) refl refl a (λ b. shown-says rows older possible.1 id number b)
  where
    Says : List KnownRow → Type 0
    Says known = (row : KnownRow) × (known_of id known ≡ Some row) × ((w : Version) × (row.says ≡ Some w) × (number ≤ w.object_update))

    later : (c : Bool) → nat_eq other id ≡ c → Says (rows_after rows older) → Says (read_anew (rows_after rows older) other v)
    later true x found =
        let now = reads-known id other v (rows_after rows older) found.0 found.1 in
        let more = newer-before v found.2.0 in
        let least = found.2.2 in
        (now.0, now.1, (newer v (Some found.2.0), now.2 ∙ (λ i. cond (x i) (Some (newer v (found.2.1 i))) found.0.says), omega (arith, more, least)))
    later false x found =
        let now = reads-known id other v (rows_after rows older) found.0 found.1 in
        (now.0, now.1, (found.2.0, now.2 ∙ (λ i. cond (x i) (Some (newer v found.0.says)) found.0.says) ∙ found.2.1, found.2.2))

    by : (c d : Bool) → nat_eq other id ≡ c → nat_le number v.object_update ≡ d → (c && d) || list_any (shows_from id number) (since_deletion id older) ≡ true
        → (list_any (shows_from id number) (since_deletion id older) ≡ true → Says (rows_after rows older)) → Says (read_anew (rows_after rows older) other v)
    by true true x y b r =
        let there = subst (λ (n : ℕ). (row : KnownRow) × (known_of n (rows_after rows older) ≡ Some row)) (eqb-true other id x) possible.0 in
        let now = reads-known id other v (rows_after rows older) there.0 there.1 in
        let least = newer-least v there.0.says in
        let low = leb-true number v.object_update y in
        (now.0, now.1, (newer v there.0.says, now.2 ∙ (λ i. cond (x i) (Some (newer v there.0.says)) there.0.says), omega (arith, least, low)))
    by true false x y b r = later true x (r b)
    by false d x y b r = later false x (r b)

-- ---- several changes

pub rows-befalling : (rows : List ObjectRow) (events : List Event) (older : List Happening) → rows_after rows (befalling events ++ older) ≡ changed_by (rows_after rows older) events
rows-befalling rows [] older = refl
rows-befalling rows (event ∷ events) older =
    ap (λ (l : List Happening). rows_after rows (l ++ older)) (reverse-append (Changes event ∷ []) (map Changes events))
    ∙ ap (rows_after rows) (append_assoc (befalling events) (Changes event ∷ []) older)
    ∙ rows-befalling rows events (Changes event ∷ older)

pub possible-befalling : (rows : List ObjectRow) (events : List Event) (older : List Happening) → Possible rows older → first_torn (rows_after rows older) events ≡ None
    → Possible rows (befalling events ++ older)
possible-befalling rows [] older possible none = possible
possible-befalling rows (event ∷ events) older possible none =
    subst (Possible rows) (sym (ap (λ (l : List Happening). l ++ older) (reverse-append (Changes event ∷ []) (map Changes events)) ∙ append_assoc (befalling events) (Changes event ∷ []) older))
    (by (cannot_be (rows_after rows older) event) refl none (λ e f. possible-befalling rows events (Changes event ∷ older) (e, possible) f))
  where
    by : (b : Bool) → cannot_be (rows_after rows older) event ≡ b → cond b (Some (object_of event)) (first_torn (changed (rows_after rows older) event) events) ≡ None
        → (cannot_be (rows_after rows older) event ≡ false → first_torn (changed (rows_after rows older) event) events ≡ None → Possible rows (befalling events ++ (Changes event ∷ older)))
        → Possible rows (befalling events ++ (Changes event ∷ older))
    by true e k r = none≢some None (object_of event) refl (sym k)
    by false e k r = r e k

-- changes of which none deletes an id keep what is known of it
pub keeps-changes : (id : ℕ) (events : List Event) (rows : List KnownRow) → first_torn rows events ≡ None
    → AllByRecursion (λ (event : Event). deletes id (Changes event) ≡ false) events → Keeps id rows (changed_by rows events)
keeps-changes id [] rows none all row e = (row, e, refl)
keeps-changes id (event ∷ events) rows none all row e = by (cannot_be rows event) refl none (λ k r f. keeps-changes id events (changed rows event) k all.1 r f)
  where
    by : (b : Bool) → cannot_be rows event ≡ b → cond b (Some (object_of event)) (first_torn (changed rows event) events) ≡ None
        → (first_torn (changed rows event) events ≡ None → (r : KnownRow) → known_of id (changed rows event) ≡ Some r
        → (kept : KnownRow) × (known_of id (changed_by (changed rows event) events) ≡ Some kept) × (kept.says ≡ r.says))
        → (kept : KnownRow) × (known_of id (changed_by (changed rows event) events) ≡ Some kept) × (kept.says ≡ row.says)
    by true c k r = none≢some None (object_of event) refl (sym k)
    by false c k r =
        let one = keeps-change id rows event c all.0 row e in
        let rest = r k one.0 one.1 in
        (rest.0, rest.1, rest.2 ∙ one.2)
