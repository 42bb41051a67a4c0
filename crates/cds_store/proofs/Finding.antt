-- Each change of a scan finds what it names by ids, when those before it are made.
use Rattle.std.proofs.Common.{◌≡◌, ◌<◌, ◌≤◌, ℕ, Bool, true, false, cond, nat_eq, map, List, [], ◌∷◌, ◌++◌, reverse, Some, None, refl, sym, ◌∙◌, ap, subst, append_assoc, arith}
use Rattle.std.specs.List.{AllByRecursion}
use Rattle.std.proofs.lemmas.Bool.{false_from_ne_true}
use Rattle.std.proofs.lemmas.Bool.Decides.{nat_tests}
use Rattle.std.proofs.lemmas.List.{map-append}
use Rattle.cds_object.specs.Path.{same_path, parent_of}
use Rattle.cds_object.specs.Tree.{IdsAscend}
use Rattle.cds_object.specs.declared.content.Content.{Content}
use Rattle.cds_catalog.specs.Library.{FolderMap, found}
use Rattle.cds_catalog.specs.History.{latest, changes_of, place_of}
use Rattle.cds_catalog.specs.Catalog.{PlacedRow, id_of, root_entry}
use Rattle.cds_catalog.specs.Laws.{IsWithin}
use Rattle.cds_catalog.specs.Replay.{IsLegal}
use Rattle.cds_catalog.specs.Steps.{Standing, stepped, id_at}
use Rattle.cds_catalog.specs.declared.change.Change.{Change}
use Rattle.cds_catalog.specs.declared.change.Change.TheVariants.{Deletion, Addition, Modification}
use Rattle.cds_catalog.proofs.Live.{live}
use Rattle.cds_catalog.proofs.Paths.{same_path_is}
use Rattle.cds_catalog.proofs.StepsPaths.{Place}
use Rattle.cds_catalog.proofs.StepsFind.{Entry, Rising, find_in, found_holds, each-map, each-weaker, none≢some}
use Rattle.cds_catalog.proofs.StepsIds.{ids_rise}
use Rattle.cds_catalog.proofs.StepsLive.{shown, shown_holder, find_live, stands_named, held, holds_is}
use Rattle.cds_catalog.proofs.StepsRows.{row_over, rows_over, standing_over}
use Rattle.cds_catalog.proofs.StepsScan.{legal_within_scan, standing_within_scan, rows_over_within}
use Rattle.cds_store.specs.ChangeEvents.{changes_in}
use Rattle.cds_store.specs.Rows.{rows_of}
use Rattle.cds_store.specs.Stands.{IsScan}
use Rattle.cds_store.specs.Found.{id_found, IsOnlyAt, OwnIsFound, CanFind}
use Rattle.cds_store.specs.declared.subtrees.MarkedChange.{MarkedChange}
use Rattle.cds_store.proofs.Making.{reversed_parts}
use Rattle.cds_store.proofs.ScanEvents.{id-found}

ascending_rows : (first : ℕ) (changes : List Change) (es : FolderMap) → Rising (id_of changes) es → IdsAscend (rows_of (map (row_over first changes) es))
ascending_rows first changes [] h = tt
ascending_rows first changes (e ∷ []) h = tt
ascending_rows first changes (e ∷ next ∷ es) h = (h.0.0, ascending_rows first changes (next ∷ es) h.1)

below_differs : (a b : ℕ) → a < b → nat_eq a b ≡ false
below_differs a b h = grind (arith, nat_tests)

above_differs : (a b : ℕ) → b < a → nat_eq a b ≡ false
above_differs a b h = grind (arith, nat_tests)

is_itself : (a b : ℕ) → a ≡ b → nat_eq a b ≡ true
is_itself a b h = grind (arith, nat_tests)

not_below_itself : (a b : ℕ) → a < b → b ≡ a → ⊥
not_below_itself a b h e = omega (arith, h, e)

-- exactly the entries at a place have its number, where numbers rise and something stands there
only_there : (f : Place → ℕ) (es : FolderMap) (q : Place) (content : Content) → Rising f es → find_in es q ≡ Some content
    → AllByRecursion (λ (e : Entry). same_path q e.0 ≡ nat_eq (f e.0) (f q)) es
only_there f [] q content rising there = tt
only_there f (e ∷ es) q content rising there = by (same_path q e.0) refl there (only_there f es q content rising.1)
  where
    by : (b : Bool) → same_path q e.0 ≡ b → cond b (Some e.1) (find_in es q) ≡ Some content
        → (find_in es q ≡ Some content → AllByRecursion (λ (o : Entry). same_path q o.0 ≡ nat_eq (f o.0) (f q)) es)
        → AllByRecursion (λ (o : Entry). same_path q o.0 ≡ nat_eq (f o.0) (f q)) (e ∷ es)
    by true x k r =
        let here : f q ≡ f e.0 = ap f (same_path_is q e.0 x) in (
          x ∙ sym (is_itself (f e.0) (f q) (sym here)),
          each-weaker (λ (o : Entry). f e.0 < f o.0) (λ (o : Entry). same_path q o.0 ≡ nat_eq (f o.0) (f q))
              (λ o above.
              false_from_ne_true (same_path q o.0) (λ same. not_below_itself (f e.0) (f o.0) above (ap f (sym (same_path_is q o.0 same)) ∙ here))
              ∙ sym (above_differs (f o.0) (f q) (omega (arith, above, here))))
              es rising.0,
        )
    by false x k r =
        let below : f e.0 < f q = found_holds (λ (o : Entry). f e.0 < f o.0) es q content rising.0 k in
        (x ∙ sym (below_differs (f e.0) (f q) below), r k)

only_over : (first : ℕ) (changes : List Change) → IsLegal changes → (q : Place) (content : Content) → find_in (shown changes) q ≡ Some content
    → IsOnlyAt q (id_at q (rows_over first changes)) (rows_over first changes)
only_over first changes legal q content there =
    subst (λ id. IsOnlyAt q id (rows_over first changes)) (sym (id-found first changes (shown changes) q content there))
    (each-map (λ placed. same_path q placed.0 ≡ nat_eq placed.1.id (id_of changes q)) (row_over first changes) (shown changes)
    (only_there (id_of changes) (shown changes) q content (ids_rise changes legal) there))

parent_over : (first : ℕ) (change : Change) (older : List Change) → IsLegal (change ∷ older)
    → IsOnlyAt (parent_of (place_of change)) (id_at (parent_of (place_of change)) (rows_over first older)) (rows_over first older)
parent_over first (Deletion path) older l =
    let holder = shown_holder older l.0 (parent_of path) (held older path l.1.0 l.0 l.1.1) in
    only_over first older l.0 (parent_of path) holder.0 holder.1
parent_over first (Addition path content) older l =
    let holder = shown_holder older l.0 (parent_of path) (sym (holds_is older (parent_of path)) ∙ l.1.2) in
    only_over first older l.0 (parent_of path) holder.0 holder.1
parent_over first (Modification path content) older l =
    let holder = shown_holder older l.0 (parent_of path) (held older path l.1.0 l.0 l.1.1) in
    only_over first older l.0 (parent_of path) holder.0 holder.1

not_found : (first : ℕ) (changes : List Change) (es : FolderMap) (q : Place) → find_in es q ≡ None → id_found q (map (row_over first changes) es) ≡ None
not_found first changes [] q none = refl
not_found first changes (e ∷ es) q none = by (same_path q e.0) none (not_found first changes es q)
  where
    by : (b : Bool) → cond b (Some e.1) (find_in es q) ≡ None → (find_in es q ≡ None → id_found q (map (row_over first changes) es) ≡ None)
        → cond b (Some (id_of changes e.0)) (id_found q (map (row_over first changes) es)) ≡ None
    by true k r = none≢some (Some e.1) e.1 k refl
    by false k r = r k

own_over : (first : ℕ) (change : Change) (older : List Change) → IsLegal (change ∷ older) → OwnIsFound change (rows_over first older)
own_over first (Deletion path) older l =
    only_over first older l.0 path l.1.0
    ((λ i. cond (stands_named older path l.1.0 l.0 l.1.1 i) (Some root_entry.1) (find_in (live older) path)) ∙ find_live older l.0 path ∙ l.1.1)
own_over first (Addition path content) older l =
    not_found first older (shown older) path
    ((λ i. cond (l.1.0 i) (Some root_entry.1) (find_in (live older) path)) ∙ find_live older l.0 path ∙ l.1.1)
own_over first (Modification path content) older l =
    only_over first older l.0 path l.1.0
    ((λ i. cond (stands_named older path l.1.0 l.0 l.1.1 i) (Some root_entry.1) (find_in (live older) path)) ∙ find_live older l.0 path ∙ l.1.1)

over_can_find : (first : ℕ) (older : List Change) (change : Change) → IsLegal (change ∷ older) → CanFind (standing_over first older) change
over_can_find first older change legal = record {
  ascending = ascending_rows first older (shown older) (ids_rise older legal.0);
  parent = parent_over first change older legal;
  own = own_over first change older legal;
  drawn = each-weaker (λ (placed : PlacedRow). IsWithin (standing_over first older) placed.1) (λ (placed : PlacedRow). placed.1.id ≤ (standing_over first older).drawn)
      (λ placed within. within.id) (rows_over first older) (rows_over_within first older);
}

pub can_find_next : (s : Standing) (changes : List Change) → IsScan s changes → (later newer : List Change) (change : Change) →
    changes ≡ later ++ change ∷ newer → CanFind (stepped s newer) change
can_find_next s changes scan later newer change parted =
    let all = scan.stands.0 in
    let past = changes_of scan.history.maps in
    let made : found (latest scan.history.maps) scan.library ≡ later ++ (change ∷ newer) = sym scan.made ∙ parted in
    let legal = legal_within_scan scan.history scan.library all scan.is_library later (change ∷ newer) made in
    let apart : found (latest scan.history.maps) scan.library ≡ (later ++ change ∷ []) ++ newer = made ∙ sym (append_assoc later (change ∷ []) newer) in
    let standing = standing_within_scan scan.history scan.library all scan.is_library (later ++ change ∷ []) newer apart in
    subst (λ (t : Standing). CanFind t change)
    (sym (ap (λ (t : Standing). stepped t newer) scan.stands.1 ∙ standing))
    (over_can_find scan.history.first (newer ++ past) change legal)

-- the next change of a plan finds what it names
pub can-find-marked : (s now : Standing) (plan : List MarkedChange) → IsScan s (changes_in (reverse plan)) → (made left rest : List MarkedChange) (p : MarkedChange)
    → plan ≡ made ++ left → left ≡ p ∷ rest → now ≡ stepped s (changes_in (reverse made)) → CanFind now p.change
can-find-marked s now plan scan made left rest p parted next is =
    subst (λ (t : Standing). CanFind t p.change) (sym is)
    (can_find_next s (changes_in (reverse plan)) scan (changes_in (reverse rest)) (changes_in (reverse made)) p.change
    (ap changes_in (reversed_parts plan made left rest p parted next) ∙ map-append (λ (q : MarkedChange). q.change) (reverse rest) (p ∷ reverse made)))
