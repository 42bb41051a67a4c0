-- A copy of an honest server: what keeps it like the server's rows, and when it is them.
use Rattle.std.proofs.Common.{◌≡◌, ℕ, Bool, true, false, cond, not, ◌||◌, nat_eq, nat_lt, List, [], ◌∷◌, ◌++◌, map, filter, Option, Some, None, MatchOption, refl, sym, ap, ◌∙◌, subst, true≢false, eqb-true, append_assoc}
use Rattle.std.specs.List.{AllByRecursion, list_any, filter_map, cons_option}
use Rattle.std.specs.Option.{option_map, option_eq}
use Rattle.std.proofs.lemmas.List.{reverse-append}
use Rattle.cds_object.specs.Object.{ObjectRow}
use Rattle.cds_object.specs.Tree.{row_of}
use Rattle.cds_object.specs.declared.row.Trackers.{Trackers}
use Rattle.cds_object.specs.declared.event.Event.{Event}
use Rattle.cds_object.specs.declared.event.Event.TheVariants.{ObjAdd, ObjMod, ObjDel, StDone}
use Rattle.cds_catalog.proofs.StepsFind.{none≢some, each-filter, each-weaker}
use Rattle.cds_follow.specs.Copy.{Version, KnownRow, known_row, known_of, counted, counts_addition, counts_modification, counts_deletion, parent_in, added_row, put_known, changed, newer, read_anew, Happening, Changes, deletes, marks, since_deletion, read_up_to}
use Rattle.cds_follow.specs.StepLaws.{IsLike, AreLike, changed_by}
use Rattle.cds_follow.specs.ServerLaws.{befalling}
use Rattle.cds_follow.proofs.Settled.{is_marked, marked-tail}

-- ---- rows that are like others, found by their ids

pub like-known : (knowns : List KnownRow) (rows : List ObjectRow) (id : ℕ) (row : ObjectRow) → AreLike knowns rows → row_of id rows ≡ Some row
    → (known : KnownRow) × (known_of id knowns ≡ Some known) × IsLike known row
like-known [] [] id row like e = none≢some None row refl e
like-known [] (next ∷ rows) id row like e = absurd like
like-known (known ∷ knowns) [] id row like e = absurd like
like-known (known ∷ knowns) (next ∷ rows) id row like e = by (nat_eq next.id id) refl e (λ k. like-known knowns rows id row like.1 k)
  where
    by : (b : Bool) → nat_eq next.id id ≡ b → cond b (Some next) (row_of id rows) ≡ Some row
        → (row_of id rows ≡ Some row → (k : KnownRow) × (known_of id knowns ≡ Some k) × IsLike k row)
        → (k : KnownRow) × (cond (nat_eq known.id id) (Some known) (known_of id knowns) ≡ Some k) × IsLike k row
    by true x k r =
        let same : next ≡ row = cc in
        (known, (λ i. cond ((ap (λ (n : ℕ). nat_eq n id) like.0.id ∙ x) i) (Some known) (known_of id knowns)), subst (IsLike known) same like.0)
    by false x k r =
        let rest = r k in
        (rest.0, (λ i. cond ((ap (λ (n : ℕ). nat_eq n id) like.0.id ∙ x) i) (Some known) (known_of id knowns)) ∙ rest.1, rest.2)

pub known-like : (knowns : List KnownRow) (rows : List ObjectRow) (id : ℕ) (known : KnownRow) → AreLike knowns rows → known_of id knowns ≡ Some known
    → (row : ObjectRow) × (row_of id rows ≡ Some row) × IsLike known row
known-like [] [] id known like e = none≢some None known refl e
known-like [] (next ∷ rows) id known like e = absurd like
known-like (first ∷ knowns) [] id known like e = absurd like
known-like (first ∷ knowns) (next ∷ rows) id known like e = by (nat_eq first.id id) refl e (λ k. known-like knowns rows id known like.1 k)
  where
    by : (b : Bool) → nat_eq first.id id ≡ b → cond b (Some first) (known_of id knowns) ≡ Some known
        → (known_of id knowns ≡ Some known → (row : ObjectRow) × (row_of id rows ≡ Some row) × IsLike known row)
        → (row : ObjectRow) × (cond (nat_eq next.id id) (Some next) (row_of id rows) ≡ Some row) × IsLike known row
    by true x k r =
        let same : first ≡ known = cc in
        (next, (λ i. cond ((ap (λ (n : ℕ). nat_eq n id) (sym like.0.id) ∙ x) i) (Some next) (row_of id rows)), subst (λ (y : KnownRow). IsLike y next) same like.0)
    by false x k r =
        let rest = r k in
        (rest.0, (λ i. cond ((ap (λ (n : ℕ). nat_eq n id) (sym like.0.id) ∙ x) i) (Some next) (row_of id rows)) ∙ rest.1, rest.2)

pub like-itself : (rows : List ObjectRow) → AreLike (map known_row rows) rows
like-itself [] = tt
like-itself (row ∷ rows) = (record { id = refl; parent = refl; folder = refl; trackers = refl }, like-itself rows)

pub like-read : (knowns : List KnownRow) (rows : List ObjectRow) (id : ℕ) (v : Version) → AreLike knowns rows → AreLike (read_anew knowns id v) rows
like-read [] [] id v like = tt
like-read [] (row ∷ rows) id v like = absurd like
like-read (known ∷ knowns) [] id v like = absurd like
like-read (known ∷ knowns) (row ∷ rows) id v like = (by (nat_eq known.id id), like-read knowns rows id v like.1)
  where
    by : (b : Bool) → IsLike (cond b (record known { says = Some (newer v known.says) }) known) row
    by true = record { id = like.0.id; parent = like.0.parent; folder = like.0.folder; trackers = like.0.trackers }
    by false = like.0

pub known-row : (rows : List ObjectRow) (id : ℕ) (row : ObjectRow) → row_of id rows ≡ Some row → known_of id (map known_row rows) ≡ Some (known_row row)
known-row [] id row e = none≢some None row refl e
known-row (next ∷ rows) id row e = by (nat_eq next.id id) e (known-row rows id row)
  where
    by : (b : Bool) → cond b (Some next) (row_of id rows) ≡ Some row → (row_of id rows ≡ Some row → known_of id (map known_row rows) ≡ Some (known_row row))
        → cond b (Some (known_row next)) (known_of id (map known_row rows)) ≡ Some (known_row row)
    by true k r = let same : next ≡ row = cc in ap (λ (x : ObjectRow). Some (known_row x)) same
    by false k r = r k

-- ---- where what rows say comes from

abbrev pub Comes : (ℕ → Version → Type 0) → KnownRow → Type 0
Comes From known = MatchOption known.says (Unit {0}) (From known.id)

module _ (From : ℕ → Version → Type 0) where
  comes-counted : (f : Trackers → Trackers) (parent : Option ℕ) (rows : List KnownRow) → AllByRecursion (Comes From) rows → AllByRecursion (Comes From) (counted f parent rows)
  comes-counted f parent [] all = tt
  comes-counted f parent (row ∷ rows) all = (by (option_eq nat_eq (Some row.id) parent), comes-counted f parent rows all.1)
    where
      by : (b : Bool) → Comes From (cond b (record row { trackers = option_map f row.trackers }) row)
      by true = all.0
      by false = all.0

  comes-put : (new : KnownRow) (rows : List KnownRow) → Comes From new → AllByRecursion (Comes From) rows → AllByRecursion (Comes From) (put_known new rows)
  comes-put new [] one all = (one, tt)
  comes-put new (next ∷ rows) one all = by (nat_lt new.id next.id) (comes-put new rows one all.1)
    where
      by : (b : Bool) → AllByRecursion (Comes From) (put_known new rows) → AllByRecursion (Comes From) (cond b (new ∷ next ∷ rows) (next ∷ put_known new rows))
      by true r = (one, all)
      by false r = (all.0, r)

  comes-change : (rows : List KnownRow) (event : Event) → AllByRecursion (Comes From) rows → AllByRecursion (Comes From) (changed rows event)
  comes-change rows (ObjAdd id number st parent class) all =
      comes-put (added_row id number parent class) (counted (counts_addition number) (Some parent) rows) tt (comes-counted (counts_addition number) (Some parent) rows all)
  comes-change rows (ObjMod id number st) all = comes-counted (counts_modification number) (parent_in id rows) rows all
  comes-change rows (ObjDel id number st) all =
      comes-counted (counts_deletion number) (parent_in id rows) (filter (λ (row : KnownRow). not (nat_eq row.id id)) rows)
      (each-filter (Comes From) (λ (row : KnownRow). not (nat_eq row.id id)) rows all)
  comes-change rows (StDone id number) all = all

  pub comes-changes : (rows : List KnownRow) (events : List Event) → AllByRecursion (Comes From) rows → AllByRecursion (Comes From) (changed_by rows events)
  comes-changes rows [] all = all
  comes-changes rows (event ∷ events) all = comes-changes (changed rows event) events (comes-change rows event all)

  comes-newer : (id : ℕ) (v : Version) (o : Option Version) → From id v → MatchOption o (Unit {0}) (From id) → From id (newer v o)
  comes-newer id v None one was = one
  comes-newer id v (Some before) one was = by (nat_lt v.object_update before.object_update)
    where
      by : (b : Bool) → From id (cond b before v)
      by true = was
      by false = one

  pub comes-read : (rows : List KnownRow) (id : ℕ) (v : Version) → From id v → AllByRecursion (Comes From) rows → AllByRecursion (Comes From) (read_anew rows id v)
  comes-read [] id v one all = tt
  comes-read (row ∷ rows) id v one all = (by (nat_eq row.id id) refl, comes-read rows id v one all.1)
    where
      by : (b : Bool) → nat_eq row.id id ≡ b → Comes From (cond b (record row { says = Some (newer v row.says) }) row)
      by true e = comes-newer row.id v row.says (subst (λ (n : ℕ). From n v) (sym (eqb-true row.id id e)) one) all.0
      by false e = all.0

  pub comes-from : (rows : List KnownRow) (id : ℕ) (known : KnownRow) (v : Version) → AllByRecursion (Comes From) rows → known_of id rows ≡ Some known
      → known.says ≡ Some v → From id v
  comes-from [] id known v all e s = none≢some None known refl e
  comes-from (row ∷ rows) id known v all e s = by (nat_eq row.id id) refl e (λ k. comes-from rows id known v all.1 k s)
    where
      by : (b : Bool) → nat_eq row.id id ≡ b → cond b (Some row) (known_of id rows) ≡ Some known → (known_of id rows ≡ Some known → From id v) → From id v
      by true x k r =
          let same : row ≡ known = cc in
          subst (λ (o : Option Version). MatchOption o (Unit {0}) (From id)) (ap (λ (y : KnownRow). y.says) same ∙ s)
          (subst (λ (n : ℕ). MatchOption row.says (Unit {0}) (From n)) (eqb-true row.id id x) all.0)
      by false x k r = r k

pub comes-weaker : (From To : ℕ → Version → Type 0) → ((id : ℕ) (v : Version) → From id v → To id v) → (rows : List KnownRow) → AllByRecursion (Comes From) rows → AllByRecursion (Comes To) rows
comes-weaker From To f rows all = each-weaker (Comes From) (Comes To) (λ known c. on known.id known.says c) rows all
  where
    on : (id : ℕ) (o : Option Version) → MatchOption o (Unit {0}) (From id) → MatchOption o (Unit {0}) (To id)
    on id None c = tt
    on id (Some v) c = f id v c

-- ---- marks, with more that befell

pub marked-more : (id number : ℕ) (newer older : List Happening) → is_marked id number newer ≡ true → is_marked id number (newer ++ older) ≡ true
marked-more id number [] older e = absurd (true≢false (sym e))
marked-more id number (h ∷ newer) older e = by (deletes id h) (marks id h) e (marked-more id number newer older)
  where
    by : (b : Bool) (o : Option ℕ)
        → list_any (nat_eq number) (filter_map (marks id) (cond b [] (h ∷ since_deletion id newer))) ≡ true
        → (is_marked id number newer ≡ true → is_marked id number (newer ++ older) ≡ true)
        → list_any (nat_eq number) (filter_map (marks id) (cond b [] (h ∷ since_deletion id (newer ++ older)))) ≡ true
    by true o k r = absurd (true≢false (sym k))
    by false o k r = on (marks id h) k
      where
        one : (n : ℕ) (c : Bool) → c || is_marked id number newer ≡ true → c || is_marked id number (newer ++ older) ≡ true
        one n true k = refl
        one n false k = r k

        on : (m : Option ℕ) → list_any (nat_eq number) (cons_option m (filter_map (marks id) (since_deletion id newer))) ≡ true
            → list_any (nat_eq number) (cons_option m (filter_map (marks id) (since_deletion id (newer ++ older)))) ≡ true
        on None k = r k
        on (Some n) k = one n (nat_eq number n) k

pub marked-still : (id number : ℕ) (newer older : List Happening) → AllByRecursion (λ (h : Happening). deletes id h ≡ false) newer
    → is_marked id number older ≡ true → is_marked id number (newer ++ older) ≡ true
marked-still id number [] older all e = e
marked-still id number (h ∷ newer) older all e = marked-tail id number h (newer ++ older) all.0 (marked-still id number newer older all.1 e)

befalling-cons : (event : Event) (events : List Event) → befalling (event ∷ events) ≡ befalling events ++ Changes event ∷ []
befalling-cons event events = reverse-append (Changes event ∷ []) (map Changes events)

all-left : {X : Type 0} (P : X → Type 0) (xs ys : List X) → AllByRecursion P (xs ++ ys) → AllByRecursion P xs × AllByRecursion P ys
all-left P [] ys all = (tt, all)
all-left P (x ∷ xs) ys all = let rest = all-left P xs ys all.1 in ((all.0, rest.0), rest.1)

pub none-deleted : (id : ℕ) (events : List Event) → AllByRecursion (λ (h : Happening). deletes id h ≡ false) (befalling events)
    → AllByRecursion (λ (event : Event). deletes id (Changes event) ≡ false) events
none-deleted id [] all = tt
none-deleted id (event ∷ events) all =
    let parts = all-left (λ (h : Happening). deletes id h ≡ false) (befalling events) (Changes event ∷ []) (subst (AllByRecursion (λ (h : Happening). deletes id h ≡ false)) (befalling-cons event events) all) in
    (parts.1.0, none-deleted id events parts.0)

pub read-up-to : (events : List Event) (older : List Happening) → read_up_to (befalling events ++ older) ≡ read_up_to older
read-up-to [] older = refl
read-up-to (event ∷ events) older =
    ap (λ (l : List Happening). read_up_to (l ++ older)) (befalling-cons event events)
    ∙ ap read_up_to (append_assoc (befalling events) (Changes event ∷ []) older)
    ∙ read-up-to events (Changes event ∷ older)
