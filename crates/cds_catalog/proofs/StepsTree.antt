-- The catalog's rows are a tree.
use Rattle.std.proofs.Common.{◌≡◌, ◌+◌, ◌<◌, ℕ, Bool, true, false, cond, map, nat_eq, List, [], ◌∷◌, Some, None, is_some, is_none, MatchOption, refl, sym, ◌∙◌, ap, subst, arith, true≢false, eq-eqb, ne_eqb}
use Rattle.std.specs.List.{AllByRecursion, count_by}
use Rattle.std.specs.Option.{option_eq}
use Rattle.cds_object.specs.Path.{same_path, parent_of}
use Rattle.cds_object.specs.Object.{ObjectRow, IsRow, is_folder}
use Rattle.cds_object.specs.Tree.{row_of, is_child_of, is_container_row, IdsAscend, IsHeld, CountsChildren, IsTree}
use Rattle.cds_object.specs.declared.content.Content.{Content}
use Rattle.cds_object.specs.declared.content.Content.TheVariants.{Folder, Track}
use Rattle.cds_catalog.specs.Library.{FolderMap}
use Rattle.cds_catalog.specs.History.{changes_of}
use Rattle.cds_catalog.specs.Catalog.{PlacedRow, root_entry, row_at, id_of, parent_id_of, trackers_of, child_count_of}
use Rattle.cds_catalog.specs.Replay.{stands, IsLegal}
use Rattle.cds_catalog.specs.Laws.{catalogs_are_trees}
use Rattle.cds_catalog.specs.declared.change.Change.{Change}
use Rattle.cds_catalog.proofs.Paths.{same_path_decides, same_path_is}
use Rattle.cds_catalog.proofs.Found.{history_is_legal}
use Rattle.cds_catalog.proofs.StepsPaths.{Place}
use Rattle.cds_catalog.proofs.StepsFind.{Entry, find_in, Rising, each-weaker, each-map, each-both, none≢some, found_holds, each_from_found, Apart_from_Rising, count_by-cons}
use Rattle.cds_catalog.proofs.StepsLive.{shown, shown_holder, find_live, stands_named, held}
use Rattle.cds_catalog.proofs.StepsIds.{ids_rise, id_root, parent_lower}
use Rattle.cds_catalog.proofs.StepsRows.{map_map, row_over}
use Rattle.cds_catalog.proofs.StepsCatalog.{placed_rows_over}
use Rattle.cds_catalog.proofs.Live.{live}

lower_differs : (a b : ℕ) → a < b → a ≡ b → ⊥
lower_differs a b h e = omega arith

-- places of rising entries with one number are one
same_number : (f : Place → ℕ) (es : FolderMap) (p q : Place) (x y : Content) → Rising f es → find_in es p ≡ Some x → find_in es q ≡ Some y → f p ≡ f q → p ≡ q
same_number f [] p q x y h k m e = none≢some None x refl k
same_number f (z ∷ es) p q x y h k m e = by (same_path p z.0) (same_path q z.0) refl refl k m (λ a b. same_number f es p q x y h.1 a b e)
  where
    by : (b c : Bool) → same_path p z.0 ≡ b → same_path q z.0 ≡ c → cond b (Some z.1) (find_in es p) ≡ Some x → cond c (Some z.1) (find_in es q) ≡ Some y
        → (find_in es p ≡ Some x → find_in es q ≡ Some y → p ≡ q) → p ≡ q
    by true true u v k m r = same_path_is p z.0 u ∙ sym (same_path_is q z.0 v)
    by true false u v k m r =
        let l : f z.0 < f q = found_holds (λ o. f z.0 < f o.0) es q y h.0 m in
        absurd (lower_differs (f z.0) (f q) l (sym (ap f (same_path_is p z.0 u)) ∙ e))
    by false true u v k m r =
        let l : f z.0 < f p = found_holds (λ o. f z.0 < f o.0) es p x h.0 k in
        absurd (lower_differs (f z.0) (f p) l (sym (ap f (same_path_is q z.0 v)) ∙ sym e))
    by false false u v k m r = r k m

count_map : {X Y : Type 0} (t : Y → Bool) (f : X → Y) (xs : List X) → count_by t (map f xs) ≡ count_by (λ x. t (f x)) xs
count_map t f [] = refl
count_map t f (x ∷ xs) =
    count_by-cons t (f x) (map f xs) ∙ ap (λ n. cond (t (f x)) 1 0 + n) (count_map t f xs) ∙ sym (count_by-cons (λ x. t (f x)) x xs)

count_agree : {X : Type 0} (t s : X → Bool) (xs : List X) → AllByRecursion (λ x. t x ≡ s x) xs → count_by t xs ≡ count_by s xs
count_agree t s [] h = refl
count_agree t s (x ∷ xs) h =
    count_by-cons t x xs ∙ (λ i. cond (h.0 i) 1 0 + count_agree t s xs h.1 i) ∙ sym (count_by-cons s x xs)

module _ (first : ℕ) (changes : List Change) (legal : IsLegal changes) where
  abbrev row : Entry → ObjectRow
  row e = row_at first changes (live changes) e

  abbrev rows : List ObjectRow
  rows = map row (shown changes)

  -- what is live stands, and the root is shown besides
  Live : Entry → Type 0
  Live e = (stands changes e.0 ≡ Some e.1) × (id_of changes [] < id_of changes e.0)

  all_live : AllByRecursion Live (live changes)
  unfolding Live
  all_live =
      each-both (λ e. stands changes e.0 ≡ Some e.1) (λ e. id_of changes [] < id_of changes e.0) (live changes)
      (each_from_found (λ e. stands changes e.0 ≡ Some e.1) (live changes) (Apart_from_Rising (id_of changes) (live changes) (ids_rise changes legal).1)
      (λ p c f. sym (find_live changes legal p) ∙ f))
      (ids_rise changes legal).0

  ascending : (es : FolderMap) → Rising (id_of changes) es → IdsAscend (map row es)
  ascending [] h = tt
  ascending (e ∷ []) h = tt
  ascending (e ∷ next ∷ es) h = (h.0.0, ascending (next ∷ es) h.1)

  row_found : (es : FolderMap) (p : Place) (content : Content) → Rising (id_of changes) es → find_in es p ≡ Some content
      → row_of (id_of changes p) (map row es) ≡ Some (row (p, content))
  row_found [] p content h k = none≢some None content refl k
  row_found (e ∷ es) p content h k = by (same_path p e.0) refl k (row_found es p content h.1)
    where
      by : (b : Bool) → same_path p e.0 ≡ b → cond b (Some e.1) (find_in es p) ≡ Some content
          → (find_in es p ≡ Some content → row_of (id_of changes p) (map row es) ≡ Some (row (p, content)))
          → row_of (id_of changes p) (row e ∷ map row es) ≡ Some (row (p, content))
      by true x k r =
          let a : e.0 ≡ p = sym (same_path_is p e.0 x) in
          let d : e.1 ≡ content = cc in
          (λ i. cond (eq-eqb (id_of changes e.0) (id_of changes p) (ap (id_of changes) a) i) (Some (row e)) (row_of (id_of changes p) (map row es)))
          ∙ (λ i. Some (row (a i, d i)))
      by false x k r =
          let l : id_of changes e.0 < id_of changes p = found_holds (λ o. id_of changes e.0 < id_of changes o.0) es p content h.0 k in
          (λ i. cond (ne_eqb (id_of changes e.0) (id_of changes p) (lower_differs _ _ l) i) (Some (row e)) (row_of (id_of changes p) (map row es)))
          ∙ r k

  root_is_zero : nat_eq (id_of changes []) 0 ≡ true
  root_is_zero = eq-eqb (id_of changes []) 0 (id_root changes legal)

  rooted : is_container_row (row_of 0 rows) ≡ true
  rooted = λ i. is_container_row (cond (root_is_zero i) (Some (row root_entry)) (row_of 0 (map row (live changes))))

  tracked : (library : FolderMap) (p : Place) (content : Content) → is_some (trackers_of first changes library p content) ≡ is_folder content
  tracked library p (Folder title) = refl
  tracked library p (Track track) = refl

  is_row : (e : Entry) → Live e → IsRow (row e)
  unfolding Live
  is_row e h = record { rooted = by e.0 (stands_named changes e.0 e.1 legal h.0) h.1; tracked = tracked (live changes) e.0 e.1 }
    where
      above_zero : (a b : ℕ) → a < b → b ≡ 0 → ⊥
      above_zero a b l e = omega arith

      by : (p : Place) → same_path p [] ≡ false → id_of changes [] < id_of changes p → is_none (parent_id_of changes p) ≡ nat_eq (id_of changes p) 0
      by [] n l = absurd (true≢false n)
      by (name ∷ names) n l = sym (ne_eqb (id_of changes (name ∷ names)) 0 (above_zero _ _ l))

  is_held : (e : Entry) → Live e → IsHeld rows (row e)
  unfolding Live
  is_held e h = by e.0 (stands_named changes e.0 e.1 legal h.0) h.0
    where
      by : (p : Place) → same_path p [] ≡ false → stands changes p ≡ Some e.1
          → MatchOption (parent_id_of changes p) (id_of changes p ≡ 0) (λ parent. (parent < id_of changes p) × (is_container_row (row_of parent rows) ≡ true))
      by [] n s = absurd (true≢false n)
      by (name ∷ names) n s =
          let parent = shown_holder changes legal (parent_of (name ∷ names)) (held changes (name ∷ names) e.1 legal s) in (
            parent_lower changes (name ∷ names) e.1 legal s,
            ap is_container_row (row_found (shown changes) (parent_of (name ∷ names)) parent.0 (ids_rise changes legal) parent.1) ∙ parent.2,
          )

  -- a row is that of a child exactly where its place is under the parent's
  is_under_it : (p : Place) (content : Content) → find_in (shown changes) p ≡ Some content → (o : Entry) → Live o
      → same_path p (parent_of o.0) ≡ is_child_of (id_of changes p) (row o)
  unfolding Live
  is_under_it p content f o h = by o.0 (stands_named changes o.0 o.1 legal h.0) h.0
    where
      by : (q : Place) → same_path q [] ≡ false → stands changes q ≡ Some o.1
          → same_path p (parent_of q) ≡ option_eq nat_eq (parent_id_of changes q) (Some (id_of changes p))
      by [] n s = absurd (true≢false n)
      by (name ∷ names) n s = cases (same_path p (parent_of (name ∷ names))) refl
        where
          parent : (c : Content) × (find_in (shown changes) (parent_of (name ∷ names)) ≡ Some c) × (is_folder c ≡ true)
          parent = shown_holder changes legal (parent_of (name ∷ names)) (held changes (name ∷ names) o.1 legal s)

          one : id_of changes (parent_of (name ∷ names)) ≡ id_of changes p → same_path p (parent_of (name ∷ names)) ≡ true
          one e = (same_path_decides p (parent_of (name ∷ names))).1
              (same_number (id_of changes) (shown changes) p (parent_of (name ∷ names)) content parent.0 (ids_rise changes legal) f parent.1 (sym e))

          cases : (b : Bool) → same_path p (parent_of (name ∷ names)) ≡ b → b ≡ nat_eq (id_of changes (parent_of (name ∷ names))) (id_of changes p)
          cases true x = sym (eq-eqb _ _ (ap (id_of changes) (sym (same_path_is p (parent_of (name ∷ names)) x))))
          cases false x = sym (ne_eqb _ _ (λ e. true≢false (sym (one e) ∙ x)))

  counts : (p : Place) (content : Content) → find_in (shown changes) p ≡ Some content → child_count_of (live changes) p ≡ count_by (is_child_of (id_of changes p)) rows
  counts p content f =
      count_agree (λ o. same_path p (parent_of o.0)) (λ o. is_child_of (id_of changes p) (row o)) (live changes)
      (each-weaker Live (λ o. same_path p (parent_of o.0) ≡ is_child_of (id_of changes p) (row o)) (is_under_it p content f) (live changes) all_live)
      ∙ sym (count_map (is_child_of (id_of changes p)) row (live changes))

  counts_children : (e : Entry) → find_in (shown changes) e.0 ≡ Some e.1 → CountsChildren rows (row e)
  counts_children e f = by e.1 (counts e.0 e.1 f)
    where
      by : (content : Content) → child_count_of (live changes) e.0 ≡ count_by (is_child_of (id_of changes e.0)) rows
          → MatchOption (trackers_of first changes (live changes) e.0 content) (Unit {0}) (λ t. t.child_count ≡ count_by (is_child_of (id_of changes e.0)) rows)
      by (Folder title) h = h
      by (Track track) h = tt

  live_counts : (e : Entry) → Live e → CountsChildren rows (row e)
  unfolding Live
  live_counts e h =
      counts_children e ((λ i. cond (stands_named changes e.0 e.1 legal h.0 i) (Some root_entry.1) (find_in (live changes) e.0)) ∙ find_live changes legal e.0 ∙ h.0)

  of_live : (P : ObjectRow → Type 0) → ((e : Entry) → Live e → P (row e)) → AllByRecursion P (map row (live changes))
  of_live P h = each-map P row (live changes) (each-weaker Live (λ e. P (row e)) h (live changes) all_live)

  pub is_tree : IsTree rows
  is_tree = record {
    ascending = ascending (shown changes) (ids_rise changes legal);
    rooted = rooted;
    each = (record { rooted = sym root_is_zero; tracked = refl }, of_live IsRow is_row);
    held = (id_root changes legal, of_live (IsHeld rows) is_held);
    counted = (counts_children root_entry refl, of_live (CountsChildren rows) live_counts);
  }

pub catalogs_are_trees-proof : catalogs_are_trees
catalogs_are_trees-proof history all =
    subst IsTree
    (sym (ap (map (λ (placed : PlacedRow). placed.1)) (placed_rows_over history.first history.maps all)
    ∙ map_map (λ (placed : PlacedRow). placed.1) (row_over history.first (changes_of history.maps)) (shown (changes_of history.maps))))
    (is_tree history.first (changes_of history.maps) (history_is_legal history.maps all).0)
