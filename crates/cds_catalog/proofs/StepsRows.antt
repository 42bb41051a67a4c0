-- One more legal change makes of the rows what the step makes of them.
use Rattle.std.proofs.Common.{◌≡◌, ◌+◌, ◌-◌, ℕ, suc, Bool, true, false, cond, not, filter, map, List, [], ◌∷◌, ◌++◌, length, Some, None, refl, sym, ◌∙◌, ap, subst, arith, true≢false}
use Rattle.std.specs.List.{AllByRecursion, count_by}
use Rattle.std.proofs.lemmas.Bool.{false_from_ne_true}
use Rattle.cds_object.specs.Path.{same_path, parent_of}
use Rattle.cds_object.specs.Content.{same_kind}
use Rattle.cds_object.specs.Object.{ObjectRow, is_folder}
use Rattle.cds_object.specs.declared.content.Content.{Content}
use Rattle.cds_object.specs.declared.content.Content.TheVariants.{Folder, Track}
use Rattle.cds_catalog.specs.Library.{FolderMap}
use Rattle.cds_catalog.specs.History.{is_addition}
use Rattle.cds_catalog.specs.Catalog.{PlacedRow, row_at, id_of, parent_id_of, child_count_of, deleted_of, root_entry}
use Rattle.cds_catalog.specs.Replay.{stands, IsLegal}
use Rattle.cds_catalog.specs.Steps.{Standing, touched, touch, id_at, child_added, child_modified, child_deleted, modified, new_row, new_trackers, step, stepped}
use Rattle.cds_catalog.specs.declared.change.Change.{Change}
use Rattle.cds_catalog.specs.declared.change.Change.TheVariants.{Deletion, Addition, Modification}
use Rattle.cds_catalog.proofs.Paths.{same_path_is, same_path_itself}
use Rattle.cds_catalog.proofs.StepsPaths.{Place, swapped, parent_differs}
use Rattle.cds_catalog.proofs.StepsFind.{Entry, find_in, Apart, removed, each-all, each-weaker, each_from_found, map-agree, none≢some, Apart_from_Rising, count_removed, count_by-cons}
use Rattle.cds_catalog.proofs.StepsLive.{shown, shown_holder, rewritten, find_live, stands_named, holds_is, parent_not_added}
use Rattle.cds_catalog.proofs.StepsIds.{ids_rise, id_new}
use Rattle.cds_catalog.proofs.StepsRow.{id_left, parent_left, update_left, update_set, container_left, container_set, container_new, deleted_more, deleted_new, children_pushed, children_rewritten, same_row, same_trackers, tracking, trackers_altered, trackers_left, trackers_are, for_folder, for_same_kind}
use Rattle.cds_catalog.proofs.Live.{live}

-- the rows over changes whose newest folder map is what stands after them
abbrev pub row_over : ℕ → List Change → Entry → PlacedRow
row_over first changes e = (e.0, row_at first changes (live changes) e)

abbrev pub rows_over : ℕ → List Change → List PlacedRow
rows_over first changes = map (row_over first changes) (shown changes)

abbrev pub standing_over : ℕ → List Change → Standing
standing_over first changes = record {
  number = first + length changes;
  drawn = count_by is_addition changes;
  rows = rows_over first changes;
}

next : (first n : ℕ) → first + suc n ≡ first + n + 1
next first n = omega arith

pub map_map : {X Y Z : Type 0} (g : Y → Z) (f : X → Y) (xs : List X) → map g (map f xs) ≡ map (λ x. g (f x)) xs
map_map g f [] = refl
map_map g f (x ∷ xs) = ap (λ l. g (f x) ∷ l) (map_map g f xs)

map-append : {X Y : Type 0} (f : X → Y) (xs ys : List X) → map f (xs ++ ys) ≡ map f xs ++ map f ys
map-append f [] ys = refl
map-append f (x ∷ xs) ys = ap (λ l. f x ∷ l) (map-append f xs ys)

live_apart : (changes : List Change) → IsLegal changes → Apart (shown changes)
live_apart changes l = Apart_from_Rising _ (shown changes) (ids_rise changes l)

touched_row : (q : Place) (f : ObjectRow → ObjectRow) (p : Place) (a b : ObjectRow) → a ≡ cond (same_path q p) (f b) b
    → ◌≡◌ {A = PlacedRow} (p, a) (touched q f (p, b))
touched_row q f p a b e = by (same_path q p) e
  where
    by : (t : Bool) → a ≡ cond t (f b) b → ◌≡◌ {A = PlacedRow} (p, a) (cond t (p, f b) (p, b))
    by true x = λ i. (p, x i)
    by false x = λ i. (p, x i)

-- ---- a deletion

row_deleted : (first : ℕ) (older : List Change) (at : Place) → IsLegal (Deletion at ∷ older) → (e : Entry)
    → row_at first (Deletion at ∷ older) (live (Deletion at ∷ older)) e
    ≡ cond (same_path (parent_of at) e.0) (child_deleted (first + length older + 1) (row_at first older (live older) e)) (row_at first older (live older) e)
row_deleted first older at l e = by (same_path (parent_of at) e.0) refl
  where
    children : child_count_of (live older) e.0 ≡ cond (same_path e.0 (parent_of at)) 1 0 + child_count_of (removed at (live older)) e.0
    children =
        count_removed (λ q. same_path e.0 (parent_of q)) (live older) at l.1.0 (live_apart older l.0).1 (find_live older l.0 at ∙ l.1.1)

    deletions : deleted_of (Deletion at ∷ older) e.0 ≡ cond (same_path e.0 (parent_of at)) 1 0 + deleted_of older e.0
    deletions = deleted_more (Deletion at) older e.0 refl

    one_less : (a b t : ℕ) → a ≡ t + b → t ≡ 1 → b ≡ a - 1
    one_less a b t p q = omega arith

    one_more : (a b t : ℕ) → a ≡ t + b → t ≡ 1 → a ≡ b + 1
    one_more a b t p q = omega arith

    as_many : (a b t : ℕ) → a ≡ t + b → t ≡ 0 → a ≡ b
    as_many a b t p q = omega arith

    by : (b : Bool) → same_path (parent_of at) e.0 ≡ b → row_at first (Deletion at ∷ older) (live (Deletion at ∷ older)) e
        ≡ cond b (child_deleted (first + length older + 1) (row_at first older (live older) e)) (row_at first older (live older) e)
    by true x =
        let t = swapped (parent_of at) e.0 true x in
        let w = ap (λ b. cond b 1 0) t in
        same_row _ _ refl (parent_left (Deletion at) older e.0 refl) refl refl
        (trackers_altered first (Deletion at ∷ older) older (removed at (live older)) (live older) e.0 e.1 _
        (same_trackers _ _ (container_set first (Deletion at) older e.0 t) (one_less _ _ _ children w) (one_more _ _ _ deletions w)))
    by false x =
        let t = swapped (parent_of at) e.0 false x in
        let w = ap (λ b. cond b 1 0) t in
        same_row _ _ refl (parent_left (Deletion at) older e.0 refl) refl refl
        (trackers_left first (Deletion at ∷ older) older (removed at (live older)) (live older) e.0 e.1
        (same_trackers _ _ (container_left first (Deletion at) older e.0 refl t) (sym (as_many _ _ _ children w)) (as_many _ _ _ deletions w)))

filter_rows : (first : ℕ) (changes : List Change) (at : Place) (es : FolderMap)
    → filter (λ (placed : PlacedRow). not (same_path at placed.0)) (map (row_over first changes) es) ≡ map (row_over first changes) (removed at es)
filter_rows first changes at [] = refl
filter_rows first changes at (e ∷ es) = by (same_path at e.0) (filter_rows first changes at es)
  where
    by : (b : Bool) → filter (λ (placed : PlacedRow). not (same_path at placed.0)) (map (row_over first changes) es) ≡ map (row_over first changes) (removed at es)
        → cond (not b) (row_over first changes e ∷ filter (λ (placed : PlacedRow). not (same_path at placed.0)) (map (row_over first changes) es))
        (filter (λ (placed : PlacedRow). not (same_path at placed.0)) (map (row_over first changes) es))
        ≡ map (row_over first changes) (cond (not b) (e ∷ removed at es) (removed at es))
    by true r = r
    by false r = ap (λ l. row_over first changes e ∷ l) r

rows_deleted : (first : ℕ) (older : List Change) (at : Place) → IsLegal (Deletion at ∷ older)
    → rows_over first (Deletion at ∷ older)
    ≡ touch (parent_of at) (child_deleted (first + length older + 1)) (filter (λ placed. not (same_path at placed.0)) (rows_over first older))
rows_deleted first older at l =
    map-agree (row_over first (Deletion at ∷ older)) (λ e. touched (parent_of at) (child_deleted (first + length older + 1)) (row_over first older e)) (root_entry ∷ removed at (live older))
    (each-all (λ e. row_over first (Deletion at ∷ older) e ≡ touched (parent_of at) (child_deleted (first + length older + 1)) (row_over first older e)) one (root_entry ∷ removed at (live older)))
    ∙ sym (map_map (touched (parent_of at) (child_deleted (first + length older + 1))) (row_over first older) (root_entry ∷ removed at (live older)))
    ∙ ap (touch (parent_of at) (child_deleted (first + length older + 1)))
    ((λ i. map (row_over first older) (cond (not (named i)) (root_entry ∷ removed at (live older)) (removed at (live older))))
    ∙ sym (filter_rows first older at (shown older)))
  where
    one : (e : Entry) → row_over first (Deletion at ∷ older) e ≡ touched (parent_of at) (child_deleted (first + length older + 1)) (row_over first older e)
    one e =
        touched_row (parent_of at) (child_deleted (first + length older + 1)) e.0 (row_at first (Deletion at ∷ older) (live (Deletion at ∷ older)) e)
        (row_at first older (live older) e) (row_deleted first older at l e)

    named : false ≡ same_path at []
    named = sym (stands_named older at l.1.0 l.0 l.1.1)

-- ---- an addition

abbrev Untouched : Place → Entry → Type 0
Untouched at e = (same_path e.0 at ≡ false) × (same_path (parent_of e.0) at ≡ false)

row_added : (first : ℕ) (older : List Change) (at : Place) (added : Content) (e : Entry) → Untouched at e
    → row_at first (Addition at added ∷ older) (live (Addition at added ∷ older)) e
    ≡ cond (same_path (parent_of at) e.0) (child_added (first + length older + 1) (row_at first older (live older) e)) (row_at first older (live older) e)
row_added first older at added e u = by (same_path (parent_of at) e.0) refl
  where
    children : child_count_of (live (Addition at added ∷ older)) e.0 ≡ child_count_of (live older) e.0 + cond (same_path e.0 (parent_of at)) 1 0
    children = children_pushed (live older) at added e.0

    deletions : deleted_of (Addition at added ∷ older) e.0 ≡ deleted_of older e.0
    deletions = let d = deleted_more (Addition at added) older e.0 u.0 in plain _ _ d
      where
        plain : (a b : ℕ) → a ≡ 0 + b → a ≡ b
        plain a b p = omega arith

    as_many : (a b t : ℕ) → a ≡ b + t → t ≡ 0 → a ≡ b
    as_many a b t p q = omega arith

    by : (b : Bool) → same_path (parent_of at) e.0 ≡ b → row_at first (Addition at added ∷ older) (live (Addition at added ∷ older)) e
        ≡ cond b (child_added (first + length older + 1) (row_at first older (live older) e)) (row_at first older (live older) e)
    by true x =
        let t = swapped (parent_of at) e.0 true x in
        same_row _ _ (id_left (Addition at added) older e.0 u.0) (parent_left (Addition at added) older e.0 u.1) refl (update_left first (Addition at added) older e.0 u.0)
        (trackers_altered first (Addition at added ∷ older) older (live (Addition at added ∷ older)) (live older) e.0 e.1 _
        (same_trackers _ _ (container_set first (Addition at added) older e.0 t)
        (children ∙ ap (λ b. child_count_of (live older) e.0 + cond b 1 0) t) deletions))
    by false x =
        let t = swapped (parent_of at) e.0 false x in
        same_row _ _ (id_left (Addition at added) older e.0 u.0) (parent_left (Addition at added) older e.0 u.1) refl (update_left first (Addition at added) older e.0 u.0)
        (trackers_left first (Addition at added ∷ older) older (live (Addition at added ∷ older)) (live older) e.0 e.1
        (same_trackers _ _ (container_left first (Addition at added) older e.0 u.0 t)
        (as_many _ _ _ children (ap (λ b. cond b 1 0) t)) deletions))

untouched : (older : List Change) (at : Place) (added : Content) → IsLegal (Addition at added ∷ older) → AllByRecursion (Untouched at) (shown older)
untouched older at added l =
    ((swapped at [] false l.1.0, swapped at [] false l.1.0), each_from_found (Untouched at) (live older) (live_apart older l.0).1 one)
  where
    one : (p : Place) (content : Content) → find_in (live older) p ≡ Some content → Untouched at (p, content)
    one p content f = (false_from_ne_true _ (λ s. none≢some (stands older p) content (ap (stands older) (same_path_is p at s) ∙ l.1.1) e), parent_not_added older at added l p content e)
      where
        e : stands older p ≡ Some content
        e = sym (find_live older l.0 p) ∙ f

count_none : {X : Type 0} (t : X → Bool) (xs : List X) → AllByRecursion (λ x. t x ≡ false) xs → count_by t xs ≡ 0
count_none t [] h = refl
count_none t (x ∷ xs) h = count_by-cons t x xs ∙ (λ i. cond (h.0 i) 1 0 + count_none t xs h.1 i)

-- the id of the row at a place that is shown
id_at_row : (first : ℕ) (changes : List Change) (es : FolderMap) (p : Place) (content : Content) → find_in es p ≡ Some content
    → id_at p (map (row_over first changes) es) ≡ id_of changes p
id_at_row first changes [] p content f = none≢some None content refl f
id_at_row first changes (e ∷ es) p content f = by (same_path p e.0) refl f (id_at_row first changes es p content)
  where
    by : (b : Bool) → same_path p e.0 ≡ b → cond b (Some e.1) (find_in es p) ≡ Some content
        → (find_in es p ≡ Some content → id_at p (map (row_over first changes) es) ≡ id_of changes p)
        → cond b (id_of changes e.0) (id_at p (map (row_over first changes) es)) ≡ id_of changes p
    by true x k r = ap (id_of changes) (sym (same_path_is p e.0 x))
    by false x k r = r k

new_trackers_are : (number : ℕ) (content : Content) → for_folder content (record { container_update = number; child_count = 0; deleted = 0 }) ≡ new_trackers number content
new_trackers_are number (Folder title) = refl
new_trackers_are number (Track track) = refl

row_new : (first : ℕ) (older : List Change) (at : Place) (added : Content) → IsLegal (Addition at added ∷ older)
    → row_at first (Addition at added ∷ older) (live (Addition at added ∷ older)) (at, added)
    ≡ new_row (count_by is_addition older + 1) (id_at (parent_of at) (rows_over first older)) (first + length older + 1) added
row_new first older at added l =
    same_row _ _ (plus_one _ _ (id_new at added older at (same_path_itself at))) (parent at refl) refl (update_set first (Addition at added) older at (same_path_itself at))
    (trackers_are first (Addition at added ∷ older) (live (Addition at added ∷ older)) at added
    ∙ ap (for_folder added) tracked
    ∙ new_trackers_are (first + length older + 1) added)
  where
    plus_one : (a b : ℕ) → a ≡ 1 + b → a ≡ b + 1
    plus_one a b p = omega arith

    differs : same_path (parent_of at) at ≡ false
    differs = parent_differs at l.1.0

    held_by : (content : Content) × (find_in (shown older) (parent_of at) ≡ Some content) × (is_folder content ≡ true)
    held_by = shown_holder older l.0 (parent_of at) (sym (holds_is older (parent_of at)) ∙ l.1.2)

    parent : (p : Place) → at ≡ p → parent_id_of (Addition at added ∷ older) p ≡ Some (id_at (parent_of at) (rows_over first older))
    parent [] e = absurd (true≢false (sym (ap (λ p. same_path p []) e) ∙ l.1.0))
    parent (name ∷ names) e =
        ap Some (ap (λ q. id_of (Addition at added ∷ older) (parent_of q)) (sym e)
        ∙ id_left (Addition at added) older (parent_of at) differs
        ∙ sym (id_at_row first older (shown older) (parent_of at) held_by.0 held_by.1))

    childless : child_count_of (live older) at ≡ 0
    childless = count_none (λ (e : Entry). same_path at (parent_of e.0)) (live older)
        (each-weaker (Untouched at) (λ e. same_path at (parent_of e.0) ≡ false) (λ e u. swapped (parent_of e.0) at false u.1) (live older) (untouched older at added l).1)

    tracked : tracking first (Addition at added ∷ older) (live (Addition at added ∷ older)) at ≡ record { container_update = first + length older + 1; child_count = 0; deleted = 0 }
    tracked = same_trackers _ _ (container_new first (Addition at added) older at (same_path_itself at))
        (children_pushed (live older) at added at ∙ (λ i. childless i + cond (swapped (parent_of at) at false differs i) 1 0))
        (deleted_new (Addition at added) older at (same_path_itself at))

rows_added : (first : ℕ) (older : List Change) (at : Place) (added : Content) → IsLegal (Addition at added ∷ older)
    → rows_over first (Addition at added ∷ older)
    ≡ touch (parent_of at) (child_added (first + length older + 1)) (rows_over first older)
    ++ (at, new_row (count_by is_addition older + 1) (id_at (parent_of at) (rows_over first older)) (first + length older + 1) added) ∷ []
rows_added first older at added l =
    map-append (row_over first (Addition at added ∷ older)) (shown older) ((at, added) ∷ [])
    ∙ (λ i. kept i ++ (at, row_new first older at added l i) ∷ [])
  where
    one : (e : Entry) → Untouched at e → row_over first (Addition at added ∷ older) e ≡ touched (parent_of at) (child_added (first + length older + 1)) (row_over first older e)
    one e u =
        touched_row (parent_of at) (child_added (first + length older + 1)) e.0 (row_at first (Addition at added ∷ older) (live (Addition at added ∷ older)) e)
        (row_at first older (live older) e) (row_added first older at added e u)

    kept : map (row_over first (Addition at added ∷ older)) (shown older) ≡ touch (parent_of at) (child_added (first + length older + 1)) (rows_over first older)
    kept =
        map-agree (row_over first (Addition at added ∷ older)) (λ e. touched (parent_of at) (child_added (first + length older + 1)) (row_over first older e)) (shown older)
        (each-weaker (Untouched at) (λ e. row_over first (Addition at added ∷ older) e ≡ touched (parent_of at) (child_added (first + length older + 1)) (row_over first older e)) one (shown older) (untouched older at added l))
        ∙ sym (map_map (touched (parent_of at) (child_added (first + length older + 1))) (row_over first older) (shown older))

-- ---- a modification

abbrev Fits : Place → Content → Entry → Type 0
Fits at written e = same_path at e.0 ≡ true → same_kind e.1 written ≡ true

none_deleted : (a b : ℕ) → a ≡ 0 + b → a ≡ b
none_deleted a b p = omega arith

row_modified : (first : ℕ) (older : List Change) (at : Place) (written : Content) (e : Entry) → same_path (parent_of at) e.0 ≡ false
    → same_path at e.0 ≡ true → same_kind e.1 written ≡ true
    → row_at first (Modification at written ∷ older) (live (Modification at written ∷ older)) (e.0, written)
    ≡ modified (first + length older + 1) written (row_at first older (live older) e)
row_modified first older at written e u x k =
    same_row _ _ refl (parent_left (Modification at written) older e.0 refl) refl (update_set first (Modification at written) older e.0 (swapped at e.0 true x))
    (trackers_are first (Modification at written ∷ older) (live (Modification at written ∷ older)) e.0 written
    ∙ for_same_kind e.1 written _ k
    ∙ ap (for_folder e.1) tracked
    ∙ sym (trackers_are first older (live older) e.0 e.1))
  where
    tracked : tracking first (Modification at written ∷ older) (live (Modification at written ∷ older)) e.0 ≡ tracking first older (live older) e.0
    tracked = same_trackers _ _ (container_left first (Modification at written) older e.0 refl (swapped (parent_of at) e.0 false u))
        (children_rewritten (live older) at written e.0)
        (none_deleted _ _ (deleted_more (Modification at written) older e.0 refl))

row_beside : (first : ℕ) (older : List Change) (at : Place) (written : Content) (e : Entry) → same_path at e.0 ≡ false
    → row_at first (Modification at written ∷ older) (live (Modification at written ∷ older)) e
    ≡ cond (same_path (parent_of at) e.0) (child_modified (first + length older + 1) (row_at first older (live older) e)) (row_at first older (live older) e)
row_beside first older at written e u = by (same_path (parent_of at) e.0) refl
  where
    deletions : deleted_of (Modification at written ∷ older) e.0 ≡ deleted_of older e.0
    deletions = none_deleted _ _ (deleted_more (Modification at written) older e.0 refl)

    by : (b : Bool) → same_path (parent_of at) e.0 ≡ b → row_at first (Modification at written ∷ older) (live (Modification at written ∷ older)) e
        ≡ cond b (child_modified (first + length older + 1) (row_at first older (live older) e)) (row_at first older (live older) e)
    by true x =
        same_row _ _ refl (parent_left (Modification at written) older e.0 refl) refl (update_left first (Modification at written) older e.0 (swapped at e.0 false u))
        (trackers_altered first (Modification at written ∷ older) older (live (Modification at written ∷ older)) (live older) e.0 e.1 _
        (same_trackers _ _ (container_set first (Modification at written) older e.0 (swapped (parent_of at) e.0 true x))
        (children_rewritten (live older) at written e.0) deletions))
    by false x =
        same_row _ _ refl (parent_left (Modification at written) older e.0 refl) refl (update_left first (Modification at written) older e.0 (swapped at e.0 false u))
        (trackers_left first (Modification at written ∷ older) older (live (Modification at written ∷ older)) (live older) e.0 e.1
        (same_trackers _ _ (container_left first (Modification at written) older e.0 refl (swapped (parent_of at) e.0 false x))
        (children_rewritten (live older) at written e.0) deletions))

-- the entry with the new words
abbrev worded : Place → Content → Entry → Entry
worded at written e = cond (same_path at e.0) (e.0, written) e

row_worded : (first : ℕ) (older : List Change) (at : Place) (written : Content) → same_path (parent_of at) at ≡ false → (e : Entry) → Fits at written e
    → row_over first (Modification at written ∷ older) (worded at written e)
    ≡ touched (parent_of at) (child_modified (first + length older + 1)) (touched at (modified (first + length older + 1) written) (row_over first older e))
row_worded first older at written d e k = by (same_path at e.0) refl k
  where
    by : (b : Bool) → same_path at e.0 ≡ b → (b ≡ true → same_kind e.1 written ≡ true)
        → row_over first (Modification at written ∷ older) (cond b (e.0, written) e)
        ≡ touched (parent_of at) (child_modified (first + length older + 1))
        (cond b (e.0, modified (first + length older + 1) written (row_at first older (live older) e)) (row_over first older e))
    by true x f =
        let u : same_path (parent_of at) e.0 ≡ false = sym (ap (same_path (parent_of at)) (same_path_is at e.0 x)) ∙ d in
        touched_row (parent_of at) (child_modified (first + length older + 1)) e.0
        (row_at first (Modification at written ∷ older) (live (Modification at written ∷ older)) (e.0, written))
        (modified (first + length older + 1) written (row_at first older (live older) e))
        (row_modified first older at written e u x (f refl)
        ∙ sym (λ i. cond (u i) (child_modified (first + length older + 1) (modified (first + length older + 1) written (row_at first older (live older) e)))
        (modified (first + length older + 1) written (row_at first older (live older) e))))
    by false x f =
        touched_row (parent_of at) (child_modified (first + length older + 1)) e.0
        (row_at first (Modification at written ∷ older) (live (Modification at written ∷ older)) e)
        (row_at first older (live older) e) (row_beside first older at written e x)

rows_modified : (first : ℕ) (older : List Change) (at : Place) (written : Content) → IsLegal (Modification at written ∷ older)
    → rows_over first (Modification at written ∷ older)
    ≡ touch (parent_of at) (child_modified (first + length older + 1)) (touch at (modified (first + length older + 1) written) (rows_over first older))
rows_modified first older at written l =
    (λ i. map now (cond (named i) ([], written) root_entry ∷ rewritten at written (live older)))
    ∙ map_map now (worded at written) (shown older)
    ∙ map-agree (λ e. now (worded at written e)) (λ e. touched (parent_of at) under (touched at itself (row_over first older e))) (shown older)
    (each-weaker (Fits at written) (λ e. now (worded at written e) ≡ touched (parent_of at) under (touched at itself (row_over first older e)))
    (row_worded first older at written (parent_differs at (sym named))) (shown older) fits)
    ∙ sym (map_map (λ placed. touched (parent_of at) under (touched at itself placed)) (row_over first older) (shown older))
    ∙ sym (map_map (touched (parent_of at) under) (touched at itself) (rows_over first older))
  where
    now : Entry → PlacedRow
    now = row_over first (Modification at written ∷ older)

    under : ObjectRow → ObjectRow
    under = child_modified (first + length older + 1)

    itself : ObjectRow → ObjectRow
    itself = modified (first + length older + 1) written

    named : false ≡ same_path at []
    named = sym (stands_named older at l.1.0 l.0 l.1.1)

    one : (p : Place) (content : Content) → find_in (live older) p ≡ Some content → Fits at written (p, content)
    one p content f x = subst (λ c. same_kind c written ≡ true) same l.1.2
      where
        same : l.1.0 ≡ content
        same = let e : Some l.1.0 ≡ Some content = sym l.1.1 ∙ ap (stands older) (same_path_is at p x) ∙ sym (find_live older l.0 p) ∙ f in cc

    fits : AllByRecursion (Fits at written) (shown older)
    fits = ((λ x. absurd (true≢false (sym x ∙ sym named))), each_from_found (Fits at written) (live older) (live_apart older l.0).1 one)

-- ---- all changes

pub step_over : (first : ℕ) (change : Change) (older : List Change) → IsLegal (change ∷ older)
    → standing_over first (change ∷ older) ≡ step (standing_over first older) change
step_over first (Deletion at) older l =
    λ i. record { number = next first (length older) i; drawn = none_drawn i; rows = rows_deleted first older at l i }
  where
    none_drawn : count_by is_addition (Deletion at ∷ older) ≡ count_by is_addition older
    none_drawn = none_deleted _ _ (count_by-cons is_addition (Deletion at) older)
step_over first (Addition at added) older l =
    λ i. record { number = next first (length older) i; drawn = one_drawn i; rows = rows_added first older at added l i }
  where
    one_drawn : count_by is_addition (Addition at added ∷ older) ≡ count_by is_addition older + 1
    one_drawn = plus_one _ _ (count_by-cons is_addition (Addition at added) older)
      where
        plus_one : (a b : ℕ) → a ≡ 1 + b → a ≡ b + 1
        plus_one a b p = omega arith
step_over first (Modification at written) older l =
    λ i. record { number = next first (length older) i; drawn = none_drawn i; rows = rows_modified first older at written l i }
  where
    none_drawn : count_by is_addition (Modification at written ∷ older) ≡ count_by is_addition older
    none_drawn = none_deleted _ _ (count_by-cons is_addition (Modification at written) older)

-- legal changes step by step, from any that went before
pub stepped_over : (first : ℕ) (newer older : List Change) → IsLegal (newer ++ older)
    → standing_over first (newer ++ older) ≡ stepped (standing_over first older) newer
stepped_over first [] older l = refl
stepped_over first (change ∷ newer) older l =
    step_over first change (newer ++ older) l ∙ ap (λ s. step s change) (stepped_over first newer older l.0)
