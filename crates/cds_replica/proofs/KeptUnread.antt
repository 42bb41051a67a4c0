-- Which object of a copy is unread, by the numbers that the copy keeps.
use Rattle.std.proofs.Common.{◌≡◌, ◌⊎◌, inl, inr, ◌<◌, ◌≤◌, ℕ, max, min, Bool, true, false, cond, not, ◌&&◌, ◌||◌, nat_eq, nat_lt, nat_le, List, [], ◌∷◌, map, filter, Option, Some, None, refl, sym, ap, ◌∙◌, true≢false, eq-eqb, eqb-true, arith}
use Rattle.std.specs.List.{AllByRecursion, list_any, filter_map, cons_option}
use Rattle.std.proofs.lemmas.Bool.{cases_lt, leb-true, leb-false, le-leb, lt-leb, ltb-true, lt-ltb, le-ltb}
use Rattle.cds_object.specs.Object.{ObjectRow}
use Rattle.cds_object.specs.declared.event.Event.TheVariants.{ObjAdd, ObjMod, ObjDel, StDone}
use Rattle.cds_catalog.proofs.StepsFind.{none≢some}
use Rattle.cds_follow.specs.Copy.{KnownRow, knows, Happening, Changes, Reads, rows_after, marks, shows_from, since_deletion, is_unread, named, least, least_unread}
use Rattle.cds_replica.specs.CopyState.{IsSound, kept_id, greatest, shows, wanted_at, shown_at, kept_row, copy_of, is_wanted, lesser_of, least_wanted}
use Rattle.cds_replica.proofs.KeptIds.{swapped-eq, neither}
use Rattle.cds_replica.proofs.KeptSteps.{unmarked}

-- ---- the two numbers

above-marks : (rows : List ObjectRow) (happenings : List Happening) → IsSound rows happenings → (id : ℕ)
    → AllByRecursion (λ (n : ℕ). 0 < n) (filter_map (marks id) (since_deletion id happenings))
above-marks rows [] sound id = tt
above-marks rows (Changes (ObjAdd other n st parent class) ∷ older) sound id = by (nat_eq other id) (above-marks rows older sound.2 id)
  where
    by : (b : Bool) → AllByRecursion (λ (m : ℕ). 0 < m) (filter_map (marks id) (since_deletion id older))
        → AllByRecursion (λ (m : ℕ). 0 < m) (cons_option (cond b (Some n) None) (filter_map (marks id) (since_deletion id older)))
    by true r = (sound.1, r)
    by false r = r
above-marks rows (Changes (ObjMod other n st) ∷ older) sound id = by (nat_eq other id) (above-marks rows older sound.2 id)
  where
    by : (b : Bool) → AllByRecursion (λ (m : ℕ). 0 < m) (filter_map (marks id) (since_deletion id older))
        → AllByRecursion (λ (m : ℕ). 0 < m) (cons_option (cond b (Some n) None) (filter_map (marks id) (since_deletion id older)))
    by true r = (sound.1, r)
    by false r = r
above-marks rows (Changes (ObjDel other n st) ∷ older) sound id = by (nat_eq other id) (above-marks rows older sound.2 id)
  where
    by : (b : Bool) → AllByRecursion (λ (m : ℕ). 0 < m) (filter_map (marks id) (since_deletion id older))
        → AllByRecursion (λ (m : ℕ). 0 < m) (filter_map (marks id) (cond b [] (Changes (ObjDel other n st) ∷ since_deletion id older)))
    by true r = tt
    by false r = r
above-marks rows (Changes (StDone other n) ∷ older) sound id = above-marks rows older sound.2 id
above-marks rows (Reads other v ∷ older) sound id = above-marks rows older sound.1 id

le-greater : (n a b : ℕ) → nat_le n a || nat_le n b ≡ nat_le n (max a b)
le-greater n a b = by (nat_le n a) (nat_le n b) refl refl
  where
    by : (c d : Bool) → nat_le n a ≡ c → nat_le n b ≡ d → c || d ≡ nat_le n (max a b)
    by true d e f = let l = leb-true n a e in sym (le-leb n (max a b) (omega (arith, l)))
    by false true e f = let l = leb-true n b f in sym (le-leb n (max a b) (omega (arith, l)))
    by false false e f = let l = leb-false n a e in let m = leb-false n b f in sym (lt-leb n (max a b) (omega (arith, l, m)))

shown-from : (id n : ℕ) → 0 < n → (since : List Happening) → list_any (shows_from id n) since ≡ nat_le n (greatest (filter_map (shows id) since))
shown-from id n l [] = sym (lt-leb n 0 l)
shown-from id n l (Changes event ∷ since) = shown-from id n l since
shown-from id n l (Reads other v ∷ since) = by (nat_eq other id) (shown-from id n l since)
  where
    by : (b : Bool) → list_any (shows_from id n) since ≡ nat_le n (greatest (filter_map (shows id) since))
        → b && nat_le n v.object_update || list_any (shows_from id n) since
        ≡ nat_le n (greatest (cons_option (cond b (Some v.object_update) None) (filter_map (shows id) since)))
    by true r = ap (λ (c : Bool). nat_le n v.object_update || c) r ∙ le-greater n v.object_update (greatest (filter_map (shows id) since))
    by false r = r

lt-greater : (g n m : ℕ) → not (nat_le n g) || nat_lt g m ≡ nat_lt g (max n m)
lt-greater g n m = by (nat_le n g) refl
  where
    equal : (a b : ℕ) → n ≤ g → nat_lt g m ≡ nat_lt g (max n m)
    equal a b l = on (cases_lt g m)
      where
        on : (g < m) ⊎ (m ≤ g) → nat_lt g m ≡ nat_lt g (max n m)
        on (inl k) = lt-ltb g m k ∙ sym (lt-ltb g (max n m) (omega (arith, k)))
        on (inr k) = le-ltb g m k ∙ sym (le-ltb g (max n m) (omega (arith, k, l)))

    by : (b : Bool) → nat_le n g ≡ b → not b || nat_lt g m ≡ nat_lt g (max n m)
    by true e = equal g m (leb-true n g e)
    by false e = let l = leb-false n g e in sym (lt-ltb g (max n m) (omega (arith, l)))

unread-among : (id : ℕ) (since : List Happening) (ns : List ℕ) → AllByRecursion (λ (n : ℕ). 0 < n) ns
    → list_any (λ (n : ℕ). not (list_any (shows_from id n) since)) ns ≡ nat_lt (greatest (filter_map (shows id) since)) (greatest ns)
unread-among id since [] all = sym (le-ltb (greatest (filter_map (shows id) since)) 0 (omega arith))
unread-among id since (n ∷ ns) all =
    (λ i. not (shown-from id n all.0 since i) || unread-among id since ns all.1 i)
    ∙ lt-greater (greatest (filter_map (shows id) since)) n (greatest ns)

-- an id is unread exactly where it was shown in no version as late as the number at which it is wanted
pub unread-numbers : (rows : List ObjectRow) (happenings : List Happening) → IsSound rows happenings → (id : ℕ)
    → is_unread id happenings ≡ nat_lt (shown_at id happenings) (wanted_at id happenings)
unread-numbers rows happenings sound id =
    unread-among id (since_deletion id happenings) (filter_map (marks id) (since_deletion id happenings)) (above-marks rows happenings sound id)

-- ---- the least of numbers

abbrev pub among : ℕ → List ℕ → Bool
among n ns = list_any (nat_eq n) ns

pub least-cons : (n : ℕ) (ns : List ℕ) → least (n ∷ ns) ≡ lesser_of (Some n) (least ns)
least-cons n ns = by (least ns) refl
  where
    by : (o : Option ℕ) → least ns ≡ o → least (n ∷ ns) ≡ lesser_of (Some n) (least ns)
    by None e = rw e refl
    by (Some other) e = rw e refl

or-left : (a b : Bool) → a ≡ true → a || b ≡ true
or-left true b e = refl
or-left false b e = absurd (true≢false (sym e))

or-right : (a b : Bool) → b ≡ true → a || b ≡ true
or-right true b e = refl
or-right false b e = e

least-in : (ns : List ℕ) (x : ℕ) → least ns ≡ Some x → among x ns ≡ true
least-in [] x e = none≢some None x refl e
least-in (n ∷ ns) x e = by (least ns) refl (sym (least-cons n ns) ∙ e) (λ k. least-in ns x k)
  where
    by : (o : Option ℕ) → least ns ≡ o → lesser_of (Some n) (least ns) ≡ Some x → (least ns ≡ Some x → among x ns ≡ true) → nat_eq x n || among x ns ≡ true
    by None k f r =
        let s : Some n ≡ Some x = sym (ap (lesser_of (Some n)) k) ∙ f in
        let same : x ≡ n = cc in
        or-left (nat_eq x n) (among x ns) (eq-eqb x n same)
    by (Some other) k f r = on (cases_lt other n)
      where
        is : Some (min n other) ≡ Some x
        is = sym (ap (lesser_of (Some n)) k) ∙ f

        at : min n other ≡ x
        at = let s = is in cc

        on : (other < n) ⊎ (n ≤ other) → nat_eq x n || among x ns ≡ true
        on (inl l) = let e = at in or-right (nat_eq x n) (among x ns) (r (k ∙ ap Some (omega (arith, l, e))))
        on (inr l) = let e = at in or-left (nat_eq x n) (among x ns) (eq-eqb x n (omega (arith, l, e)))

least-out : (ns : List ℕ) (n : ℕ) → least ns ≡ None → among n ns ≡ false
least-out [] n e = refl
least-out (m ∷ ns) n e = by (least ns) (sym (least-cons m ns) ∙ e)
  where
    by : (o : Option ℕ) → lesser_of (Some m) o ≡ None → among n (m ∷ ns) ≡ false
    by None h = none≢some None m refl (sym h)
    by (Some t) h = none≢some None (min m t) refl (sym h)

least-low : (ns : List ℕ) (x n : ℕ) → least ns ≡ Some x → among n ns ≡ true → x ≤ n
least-low [] x n e a = none≢some None x refl e
least-low (m ∷ ns) x n e a = by (least ns) (nat_eq n m) refl refl (sym (least-cons m ns) ∙ e) a (λ y k b. least-low ns y n k b)
  where
    by : (o : Option ℕ) (c : Bool) → least ns ≡ o → nat_eq n m ≡ c → lesser_of (Some m) (least ns) ≡ Some x → c || among n ns ≡ true
        → ((y : ℕ) → least ns ≡ Some y → among n ns ≡ true → y ≤ n) → x ≤ n
    by None true k d f b r =
        let s : Some m ≡ Some x = sym (ap (lesser_of (Some m)) k) ∙ f in
        let same : x ≡ m = cc in
        let is = eqb-true n m d in
        omega (arith, same, is)
    by None false k d f b r = absurd (true≢false (sym b ∙ least-out ns n k))
    by (Some other) true k d f b r =
        let s : Some (min m other) ≡ Some x = sym (ap (lesser_of (Some m)) k) ∙ f in
        let same : min m other ≡ x = cc in
        let is = eqb-true n m d in
        omega (arith, same, is)
    by (Some other) false k d f b r =
        let s : Some (min m other) ≡ Some x = sym (ap (lesser_of (Some m)) k) ∙ f in
        let same : min m other ≡ x = cc in
        let l = r other k b in
        omega (arith, same, l)

-- lists of the same numbers have the same least
pub same-least : (ns ms : List ℕ) → ((n : ℕ) → among n ns ≡ among n ms) → least ns ≡ least ms
same-least ns ms same = by (least ns) (least ms) refl refl
  where
    by : (o p : Option ℕ) → least ns ≡ o → least ms ≡ p → o ≡ p
    by None None e f = refl
    by None (Some y) e f = absurd (true≢false (sym (least-in ms y f) ∙ sym (same y) ∙ least-out ns y e))
    by (Some x) None e f = absurd (true≢false (sym (least-in ns x e) ∙ same x ∙ least-out ms x f))
    by (Some x) (Some y) e f =
        let low = least-low ns x y e (same y ∙ least-in ms y f) in
        let high = least-low ms y x f (sym (same x) ∙ least-in ns x e) in
        ap Some (omega (arith, low, high))

-- ---- the least unread

among-filter : (n : ℕ) (p : ℕ → Bool) (ns : List ℕ) → among n (filter p ns) ≡ p n && among n ns
among-filter n p [] = nothing (p n)
  where
    nothing : (b : Bool) → false ≡ b && false
    nothing true = refl
    nothing false = refl
among-filter n p (m ∷ ns) = by (p m) (p n) (nat_eq n m) refl refl refl (among-filter n p ns)
  where
    by : (a b c : Bool) → p m ≡ a → p n ≡ b → nat_eq n m ≡ c → among n (filter p ns) ≡ b && among n ns
        → among n (cond a (m ∷ filter p ns) (filter p ns)) ≡ b && (c || among n ns)
    by true true true x y z r = ap (λ (t : Bool). t || among n (filter p ns)) z
    by true true false x y z r = ap (λ (t : Bool). t || among n (filter p ns)) z ∙ r
    by true false true x y z r = absurd (true≢false (sym x ∙ sym (ap p (eqb-true n m z)) ∙ y))
    by true false false x y z r = ap (λ (t : Bool). t || among n (filter p ns)) z ∙ r
    by false true true x y z r = absurd (true≢false (sym y ∙ ap p (eqb-true n m z) ∙ x))
    by false true false x y z r = r
    by false false c x y z r = r

-- whether an id is wanted by its numbers
abbrev pub wants : List Happening → ℕ → Bool
wants happenings id = nat_lt (shown_at id happenings) (wanted_at id happenings)

among-wanted : (h : List Happening) (n : ℕ) (rows : List KnownRow)
    → among n (map kept_id (filter is_wanted (map (kept_row h) rows))) ≡ wants h n && knows n rows
among-wanted h n [] = nothing (wants h n)
  where
    nothing : (b : Bool) → false ≡ b && false
    nothing true = refl
    nothing false = refl
among-wanted h n (row ∷ rows) = by (wants h row.id) (wants h n) (nat_eq row.id n) refl refl refl (among-wanted h n rows)
  where
    by : (a b c : Bool) → wants h row.id ≡ a → wants h n ≡ b → nat_eq row.id n ≡ c → among n (map kept_id (filter is_wanted (map (kept_row h) rows))) ≡ b && knows n rows
        → among n (map kept_id (cond a (kept_row h row ∷ filter is_wanted (map (kept_row h) rows)) (filter is_wanted (map (kept_row h) rows)))) ≡ b && (c || knows n rows)
    by true true true x y z r = ap (λ (t : Bool). t || among n (map kept_id (filter is_wanted (map (kept_row h) rows)))) (swapped-eq n row.id ∙ z)
    by true true false x y z r = ap (λ (t : Bool). t || among n (map kept_id (filter is_wanted (map (kept_row h) rows)))) (swapped-eq n row.id ∙ z) ∙ r
    by true false true x y z r = absurd (true≢false (sym x ∙ ap (wants h) (eqb-true row.id n z) ∙ y))
    by true false false x y z r = ap (λ (t : Bool). t || among n (map kept_id (filter is_wanted (map (kept_row h) rows)))) (swapped-eq n row.id ∙ z) ∙ r
    by false true true x y z r = absurd (true≢false (sym y ∙ sym (ap (wants h) (eqb-true row.id n z)) ∙ x))
    by false true false x y z r = r
    by false false c x y z r = r

-- what no change names is not wanted
unnamed : (id : ℕ) (happenings : List Happening) → among id (filter_map named happenings) ≡ false → wanted_at id happenings ≡ 0
unnamed id [] e = refl
unnamed id (Changes (ObjAdd other n st parent class) ∷ older) e =
    let both = neither (nat_eq id other) (among id (filter_map named older)) e in
    (λ i. greatest (cons_option (cond ((swapped-eq other id ∙ both.0) i) (Some n) None) (filter_map (marks id) (since_deletion id older)))) ∙ unnamed id older both.1
unnamed id (Changes (ObjMod other n st) ∷ older) e =
    let both = neither (nat_eq id other) (among id (filter_map named older)) e in
    (λ i. greatest (cons_option (cond ((swapped-eq other id ∙ both.0) i) (Some n) None) (filter_map (marks id) (since_deletion id older)))) ∙ unnamed id older both.1
unnamed id (Changes (ObjDel other n st) ∷ older) e =
    let both = neither (nat_eq id other) (among id (filter_map named older)) e in
    (λ i. greatest (filter_map (marks id) (cond ((swapped-eq other id ∙ both.0) i) [] (Changes (ObjDel other n st) ∷ since_deletion id older)))) ∙ unnamed id older both.1
unnamed id (Changes (StDone other n) ∷ older) e = unnamed id older (neither (nat_eq id other) (among id (filter_map named older)) e).1
unnamed id (Reads other v ∷ older) e = unnamed id older e

never-below : (n m : ℕ) → m ≡ 0 → nat_lt n m ≡ true → ⊥
never-below n m z e = let l = ltb-true n m e in omega (arith, l, z)

and-given : (a b : Bool) → (a ≡ true → b ≡ true) → a && b ≡ a
and-given true b f = f refl
and-given false b f = refl

wanted-named : (happenings : List Happening) (id : ℕ) → wants happenings id ≡ true → among id (filter_map named happenings) ≡ true
wanted-named happenings id e = by (among id (filter_map named happenings)) refl
  where
    by : (b : Bool) → among id (filter_map named happenings) ≡ b → b ≡ true
    by true x = refl
    by false x = absurd (never-below (shown_at id happenings) (wanted_at id happenings) (unnamed id happenings x) e)

wanted-known : (rows : List ObjectRow) (happenings : List Happening) → IsSound rows happenings → (id : ℕ) → wants happenings id ≡ true
    → knows id (rows_after rows happenings) ≡ true
wanted-known rows happenings sound id e = by (knows id (rows_after rows happenings)) refl
  where
    by : (b : Bool) → knows id (rows_after rows happenings) ≡ b → b ≡ true
    by true x = refl
    by false x = absurd (never-below (shown_at id happenings) (wanted_at id happenings) (unmarked rows happenings sound id x).0 e)

-- the least unread id is that of the least wanted row
pub least-kept : (rows : List ObjectRow) (happenings : List Happening) → IsSound rows happenings → least_unread happenings ≡ least_wanted (copy_of rows happenings)
least-kept rows happenings sound =
    same-least (filter (λ (id : ℕ). is_unread id happenings) (filter_map named happenings))
    (map kept_id (filter is_wanted (map (kept_row happenings) (rows_after rows happenings)))) (λ n.
    among-filter n (λ (id : ℕ). is_unread id happenings) (filter_map named happenings)
    ∙ ap (λ (b : Bool). b && among n (filter_map named happenings)) (unread-numbers rows happenings sound n)
    ∙ and-given (wants happenings n) (among n (filter_map named happenings)) (wanted-named happenings n)
    ∙ sym (and-given (wants happenings n) (knows n (rows_after rows happenings)) (wanted-known rows happenings sound n))
    ∙ sym (among-wanted happenings n (rows_after rows happenings)))
