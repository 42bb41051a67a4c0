-- What the rows after more changes share with the rows before them, and what the changes between tell of each.
use Rattle.std.proofs.Common.{◌≡◌, ◌+◌, ◌<◌, ◌≤◌, ℕ, Bool, true, false, cond, ◌||◌, nat_eq, List, [], ◌∷◌, ◌++◌, map, filter, reverse, length, Option, Some, None, refl, sym, ap, ◌∙◌, subst, arith, true≢false, eq-eqb}
use Rattle.std.specs.List.{AllByRecursion, list_any, filter_map, cons_option}
use Rattle.std.proofs.lemmas.List.{map-append, reverse-append}
use Rattle.std.proofs.lemmas.List.Elements.{filter-append}
use Rattle.cds_object.specs.Path.{same_path}
use Rattle.cds_object.specs.Object.{ObjectRow, is_folder}
use Rattle.cds_object.specs.Tree.{row_of}
use Rattle.cds_object.specs.declared.content.Content.{Content}
use Rattle.cds_object.specs.declared.event.Event.{Event}
use Rattle.cds_catalog.specs.Library.{FolderMap, found}
use Rattle.cds_catalog.specs.History.{latest, changes_of, sets, up_to}
use Rattle.cds_catalog.specs.Catalog.{PlacedRow, id_of, parent_id_of}
use Rattle.cds_catalog.specs.Replay.{IsLegal}
use Rattle.cds_catalog.specs.declared.change.Change.{Change}
use Rattle.cds_catalog.specs.declared.change.Change.TheVariants.{Deletion, Addition, Modification}
use Rattle.cds_catalog.proofs.Paths.{same_path_is}
use Rattle.cds_catalog.proofs.StepsPaths.{Place}
use Rattle.cds_catalog.proofs.StepsFind.{Entry, find_in, each-map, each_from_found, none≢some, found_holds, Apart_from_Rising}
use Rattle.cds_catalog.proofs.StepsLive.{shown}
use Rattle.cds_catalog.proofs.StepsIds.{ids_rise, id_drawn, length-up_to}
use Rattle.cds_catalog.proofs.StepsRows.{row_over, rows_over}
use Rattle.cds_catalog.proofs.StepsScan.{older_are_legal}
use Rattle.cds_load.proofs.Trees.{found-id, all-at}
use Rattle.cds_changes.specs.Events.{event_of, scan_events, is_in_subtree, change_events}
use Rattle.cds_follow.specs.Copy.{Happening, Changes, deletes, marks, since_deletion}
use Rattle.cds_follow.proofs.Like.{unplaced}
use Rattle.cds_follow.proofs.Told.{numbers-tell}
use Rattle.cds_follow.proofs.Kept.{not-deleted, kept-one, settled-place, of-one-id}
use Rattle.cds_follow.proofs.LeadsSpan.{told, scan_told, nothing-told, told-more, one-change}
use Rattle.cds_object.specs.Events.{is_change}

-- ---- rows and places

-- a row that is found is that of a place that is shown
pub row-place : (first : ℕ) (changes : List Change) → IsLegal changes → (id : ℕ) (row : ObjectRow) → row_of id (unplaced (rows_over first changes)) ≡ Some row
    → (e : Entry) × (find_in (shown changes) e.0 ≡ Some e.1) × (row ≡ (row_over first changes e).1)
row-place first changes legal id row f =
    all-at IsOf id (unplaced (rows_over first changes)) row
    (each-map IsOf (λ (placed : PlacedRow). placed.1) (rows_over first changes)
    (each-map (λ (placed : PlacedRow). IsOf placed.1) (row_over first changes) (shown changes)
    (each_from_found (λ (e : Entry). IsOf (row_over first changes e).1) (shown changes) (Apart_from_Rising (id_of changes) (shown changes) (ids_rise changes legal))
    (λ p content there. ((p, content), there, refl))))) f
  where
    IsOf : ObjectRow → Type 0
    IsOf row = (e : Entry) × (find_in (shown changes) e.0 ≡ Some e.1) × (row ≡ (row_over first changes e).1)

found-in : (first : ℕ) (changes : List Change) (es : List Entry) (p : Place) (content : Content)
    → AllByRecursion (λ (e : Entry). nat_eq (id_of changes e.0) (id_of changes p) ≡ same_path p e.0) es → find_in es p ≡ Some content
    → row_of (id_of changes p) (unplaced (map (row_over first changes) es)) ≡ Some (row_over first changes (p, content)).1
found-in first changes [] p content all f = none≢some None content refl f
found-in first changes (e ∷ es) p content all f = by (same_path p e.0) refl f (found-in first changes es p content all.1)
  where
    by : (b : Bool) → same_path p e.0 ≡ b → cond b (Some e.1) (find_in es p) ≡ Some content
        → (find_in es p ≡ Some content → row_of (id_of changes p) (unplaced (map (row_over first changes) es)) ≡ Some (row_over first changes (p, content)).1)
        → cond (nat_eq (id_of changes e.0) (id_of changes p)) (Some (row_over first changes e).1) (row_of (id_of changes p) (unplaced (map (row_over first changes) es)))
        ≡ Some (row_over first changes (p, content)).1
    by true x k r =
        let a : e.0 ≡ p = sym (same_path_is p e.0 x) in
        let d : e.1 ≡ content = cc in
        (λ i. cond ((all.0 ∙ x) i) (Some (row_over first changes e).1) (row_of (id_of changes p) (unplaced (map (row_over first changes) es))))
        ∙ ap (λ (o : Entry). Some (row_over first changes o).1) (λ i. (a i, d i))
    by false x k r = (λ i. cond ((all.0 ∙ x) i) (Some (row_over first changes e).1) (row_of (id_of changes p) (unplaced (map (row_over first changes) es)))) ∙ r k

-- the row of a place that is shown is found by its id
pub place-row : (first : ℕ) (changes : List Change) → IsLegal changes → (p : Place) (content : Content) → find_in (shown changes) p ≡ Some content
    → row_of (id_of changes p) (unplaced (rows_over first changes)) ≡ Some (row_over first changes (p, content)).1
place-row first changes legal p content f =
    found-in first changes (shown changes) p content (numbers-tell (id_of changes) (shown changes) p content (ids_rise changes legal) f) f

-- ---- rows with more changes

pub settled-rows : (first : ℕ) (newer older : List Change) → IsLegal (newer ++ older) → (id : ℕ) (row : ObjectRow)
    → row_of id (unplaced (rows_over first (newer ++ older))) ≡ Some row → row.object_update ≤ first + length older
    → (before : ObjectRow) × (row_of id (unplaced (rows_over first older)) ≡ Some before) × (before.content ≡ row.content) × (before.object_update ≡ row.object_update)
settled-rows first newer older legal id row f l =
    let e = row-place first (newer ++ older) legal id row f in
    let update = ap (λ (r : ObjectRow). r.object_update) e.2 in
    let kept = settled-place newer older legal e.0.0 e.0.1 e.1 (omega (arith, l, update)) in
    let named : id_of older e.0.0 ≡ id = sym kept.1 ∙ sym (ap (λ (r : ObjectRow). r.id) e.2) ∙ found-id id (unplaced (rows_over first (newer ++ older))) row f in
    let length-kept = ap length kept.2 in (
      (row_over first older e.0).1,
      subst (λ (n : ℕ). row_of n (unplaced (rows_over first older)) ≡ Some (row_over first older e.0).1) named
          (place-row first older (older_are_legal newer older legal) e.0.0 e.0.1 kept.0),
      sym (ap (λ (r : ObjectRow). r.content) e.2),
      omega (arith, update, length-kept),
    )

pub one-id-rows : (first : ℕ) (newer older : List Change) → IsLegal (newer ++ older) → (id : ℕ) (row before : ObjectRow)
    → row_of id (unplaced (rows_over first (newer ++ older))) ≡ Some row → row_of id (unplaced (rows_over first older)) ≡ Some before
    → (before.parent ≡ row.parent) × (is_folder before.content ≡ is_folder row.content)
one-id-rows first newer older legal id row before f g =
    let e = row-place first (newer ++ older) legal id row f in
    let o = row-place first older (older_are_legal newer older legal) id before g in
    let of-e : id_of (newer ++ older) e.0.0 ≡ id = sym (ap (λ (r : ObjectRow). r.id) e.2) ∙ found-id id (unplaced (rows_over first (newer ++ older))) row f in
    let of-o : id_of older o.0.0 ≡ id = sym (ap (λ (r : ObjectRow). r.id) o.2) ∙ found-id id (unplaced (rows_over first older)) before g in
    let drawn = id_drawn older o.0.0 in
    let one = of-one-id newer older legal e.0.0 e.0.1 e.1 (omega (arith, of-e, of-o, drawn)) in
    let tells = found_holds (λ (x : Entry). nat_eq (id_of older x.0) (id_of older o.0.0) ≡ same_path o.0.0 x.0) (shown older) e.0.0 one.0
    (numbers-tell (id_of older) (shown older) o.0.0 o.0.1 (ids_rise older (older_are_legal newer older legal)) o.1) one.1 in
    let place : o.0.0 ≡ e.0.0 = same_path_is o.0.0 e.0.0 (sym tells ∙ eq-eqb (id_of older e.0.0) (id_of older o.0.0) (sym one.3 ∙ of-e ∙ sym of-o)) in
    let content : Some o.0.1 ≡ Some one.0 = sym o.1 ∙ ap (find_in (shown older)) place ∙ one.1 in
    let same : o.0.1 ≡ one.0 = cc in (
      ap (λ (r : ObjectRow). r.parent) o.2 ∙ ap (parent_id_of older) place ∙ sym one.4 ∙ sym (ap (λ (r : ObjectRow). r.parent) e.2),
      ap (λ (r : ObjectRow). is_folder r.content) o.2 ∙ ap is_folder same ∙ one.2 ∙ sym (ap (λ (r : ObjectRow). is_folder r.content) e.2),
    )

-- ---- what the changes between tell

-- happenings, the newest first, that tell the newest of some changes
abbrev pub Tells : ℕ → List Happening → List Change → Type 0
Tells first [] changes = Unit {0}
Tells first (happening ∷ happenings) [] = ⊥
Tells first (happening ∷ happenings) (change ∷ older) =
    ((st : Bool) × (happening ≡ Changes (event_of (first + length (change ∷ older)) older change st))) × Tells first happenings older

-- whether an id is marked with a number since its last deletion
abbrev pub is_marked : ℕ → ℕ → List Happening → Bool
is_marked id number happenings = list_any (nat_eq number) (filter_map (marks id) (since_deletion id happenings))

pub marked-head : (id number : ℕ) (happening : Happening) (happenings : List Happening) → deletes id happening ≡ false → marks id happening ≡ Some number
    → is_marked id number (happening ∷ happenings) ≡ true
marked-head id number happening happenings kept is =
    (λ i. list_any (nat_eq number) (filter_map (marks id) (cond (kept i) [] (happening ∷ since_deletion id happenings))))
    ∙ (λ i. list_any (nat_eq number) (cons_option (is i) (filter_map (marks id) (since_deletion id happenings))))
    ∙ (λ i. eq-eqb number number refl i || list_any (nat_eq number) (filter_map (marks id) (since_deletion id happenings)))

pub marked-tail : (id number : ℕ) (happening : Happening) (happenings : List Happening) → deletes id happening ≡ false
    → is_marked id number happenings ≡ true → is_marked id number (happening ∷ happenings) ≡ true
marked-tail id number happening happenings kept is =
    (λ i. list_any (nat_eq number) (filter_map (marks id) (cond (kept i) [] (happening ∷ since_deletion id happenings)))) ∙ by (marks id happening)
  where
    either : (b c : Bool) → c ≡ true → b || c ≡ true
    either true c e = refl
    either false c e = e

    by : (o : Option ℕ) → list_any (nat_eq number) (cons_option o (filter_map (marks id) (since_deletion id happenings))) ≡ true
    by None = is
    by (Some n) = either (nat_eq number n) (list_any (nat_eq number) (filter_map (marks id) (since_deletion id happenings))) is

-- an addition or a modification marks what it sets
set-marks : (number : ℕ) (change : Change) (older : List Change) (p : Place) (st : Bool) → sets p change ≡ true
    → (deletes (id_of (change ∷ older) p) (Changes (event_of number older change st)) ≡ false)
    × (marks (id_of (change ∷ older) p) (Changes (event_of number older change st)) ≡ Some number)
set-marks number (Deletion at) older p st x = absurd (true≢false (sym x))
set-marks number (Addition at added) older p st x = (
  refl,
  (λ i. cond (eq-eqb (id_of (Addition at added ∷ older) at) (id_of (Addition at added ∷ older) p)
      (ap (id_of (Addition at added ∷ older)) (sym (same_path_is p at x))) i) (Some number) None),
)
set-marks number (Modification at written) older p st x = (
  refl,
  (λ i. cond (eq-eqb (id_of older at) (id_of older p) (ap (id_of older) (sym (same_path_is p at x))) i) (Some number) None),
)

-- what is told of what stands: it was set before the changes that are told, and none of them deletes it; or it is marked
-- with the number at which it was set
abbrev pub IsTold : ℕ → ℕ → ℕ → ℕ → List Happening → Type 0
IsTold id set number all happenings =
    (set + length happenings ≤ all → AllByRecursion (λ (h : Happening). deletes id h ≡ false) happenings)
    × (all < set + length happenings → is_marked id number happenings ≡ true)

told-place : (first : ℕ) (happenings : List Happening) (changes : List Change) → Tells first happenings changes → IsLegal changes
    → (p : Place) (content : Content) → find_in (shown changes) p ≡ Some content
    → IsTold (id_of changes p) (length (up_to (sets p) changes)) (first + length (up_to (sets p) changes)) (length changes) happenings
told-place first [] changes tells legal p content f =
    (λ l. tt, λ l. let most = length-up_to (sets p) changes in let no : ⊥ = omega (arith, l, most) in absurd no)
told-place first (happening ∷ happenings) [] tells legal p content f = absurd tells
told-place first (happening ∷ happenings) (change ∷ older) tells legal p content f =
    by (sets p change) refl (λ before. told-place first happenings older tells.1 legal.0 p content before)
  where
    by : (b : Bool) → sets p change ≡ b
        → (find_in (shown older) p ≡ Some content → IsTold (id_of older p) (length (up_to (sets p) older)) (first + length (up_to (sets p) older)) (length older) happenings)
        → IsTold (id_of (change ∷ older) p) (length (cond b (change ∷ older) (up_to (sets p) older))) (first + length (cond b (change ∷ older) (up_to (sets p) older)))
        (length (change ∷ older)) (happening ∷ happenings)
    by true x r =
        let marked = set-marks (first + length (change ∷ older)) change older p tells.0.0 x in (
          (λ l. let no : ⊥ = omega (arith, l) in absurd no),
          (λ l. subst (λ (h : Happening). is_marked (id_of (change ∷ older) p) (first + length (change ∷ older)) (h ∷ happenings) ≡ true) (sym tells.0.1)
              (marked-head (id_of (change ∷ older) p) (first + length (change ∷ older))
              (Changes (event_of (first + length (change ∷ older)) older change tells.0.0)) happenings marked.0 marked.1)),
        )
    by false x r =
        let kept = kept-one change older legal p content f x in
        let rest = r kept.before in
        let not : deletes (id_of older p) happening ≡ false =
        ap (deletes (id_of older p)) tells.0.1 ∙ not-deleted (first + length (change ∷ older)) change older p tells.0.0 kept.stays in
        subst (λ (id : ℕ). IsTold id (length (up_to (sets p) older)) (first + length (up_to (sets p) older)) (length (change ∷ older)) (happening ∷ happenings)) (sym kept.id) (
          (λ l. (not, rest.0 (omega (arith, l)))),
          (λ l. marked-tail (id_of older p) (first + length (up_to (sets p) older)) happening happenings not (rest.1 (omega (arith, l)))),
        )

pub told-rows : (first : ℕ) (happenings : List Happening) (changes : List Change) → Tells first happenings changes → IsLegal changes → (id : ℕ) (row : ObjectRow)
    → row_of id (unplaced (rows_over first changes)) ≡ Some row
    → (row.object_update + length happenings ≤ first + length changes → AllByRecursion (λ (h : Happening). deletes id h ≡ false) happenings)
    × (first + length changes < row.object_update + length happenings → is_marked id row.object_update happenings ≡ true)
told-rows first happenings changes tells legal id row f =
    let e = row-place first changes legal id row f in
    let update : row.object_update ≡ first + length (up_to (sets e.0.0) changes) = ap (λ (r : ObjectRow). r.object_update) e.2 in
    let is = told-place first happenings changes tells legal e.0.0 e.0.1 e.1 in
    let named : id_of changes e.0.0 ≡ id = sym (ap (λ (r : ObjectRow). r.id) e.2) ∙ found-id id (unplaced (rows_over first changes)) row f in (
      (λ l. subst (λ (n : ℕ). AllByRecursion (λ (h : Happening). deletes n h ≡ false) happenings) named (is.0 (omega (arith, l, update)))),
      (λ l. subst (λ (n : ℕ). is_marked n row.object_update happenings ≡ true) named
          (subst (λ (u : ℕ). is_marked (id_of changes e.0.0) u happenings ≡ true) (sym update) (is.1 (omega (arith, l, update))))),
    )

-- ---- the happenings of a span

abbrev pub happenings_of : List Event → List Happening
happenings_of events = reverse (map Changes events)

pub happenings-append : (events others : List Event) → happenings_of (events ++ others) ≡ happenings_of others ++ happenings_of events
happenings-append events others = ap reverse (map-append Changes events others) ∙ reverse-append (map Changes events) (map Changes others)

scan-tells : (first : ℕ) (before scan part : List Change) (others : List Happening) → Tells first others before
    → Tells first (happenings_of (filter is_change (scan_events first before scan part)) ++ others) (part ++ before)
scan-tells first before scan [] others tells = tells
scan-tells first before scan (change ∷ earlier) others tells =
    subst (λ (l : List Event). Tells first (happenings_of l ++ others) (change ∷ earlier ++ before))
    (sym (filter-append is_change (scan_events first before scan earlier) (change_events first scan change (earlier ++ before))
    ∙ ap (λ (l : List Event). filter is_change (scan_events first before scan earlier) ++ l) (one-change first scan change (earlier ++ before))))
    (subst (λ (l : List Happening). Tells first (l ++ others) (change ∷ earlier ++ before))
    (sym (happenings-append (filter is_change (scan_events first before scan earlier)) (event_of (first + length (change ∷ earlier ++ before)) (earlier ++ before) change (is_in_subtree scan change) ∷ [])))
    ((is_in_subtree scan change, refl), scan-tells first before scan earlier others tells))

pub span-tells : (first : ℕ) (newer older : List FolderMap) → Tells first (happenings_of (told first newer older)) (changes_of (newer ++ older))
span-tells first [] older = subst (λ (l : List Event). Tells first (happenings_of l) (changes_of older)) (sym (nothing-told first older)) tt
span-tells first (library ∷ newer) older =
    subst (λ (l : List Event). Tells first (happenings_of l) (changes_of (library ∷ newer ++ older))) (sym (told-more first library newer older))
    (subst (λ (l : List Happening). Tells first l (changes_of (library ∷ newer ++ older)))
    (sym (happenings-append (told first newer older) (scan_told first library (newer ++ older))))
    (scan-tells first (changes_of (newer ++ older)) (found (latest (newer ++ older)) library) (found (latest (newer ++ older)) library)
    (happenings_of (told first newer older)) (span-tells first newer older)))
