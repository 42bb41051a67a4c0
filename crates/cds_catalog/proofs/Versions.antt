-- Within a history the number of an object's last change determines what the object says.
use Rattle.std.proofs.Common.{◌≡◌, ◌⊎◌, inl, inr, ℕ, ◌+◌, suc, Bool, true, false, cond, List, [], ◌∷◌, ◌++◌, map, length, Option, Some, None, refl, sym, ap, ◌∙◌, subst, true≢false, is_some, append_assoc, length-append, arith, nat_lt, nat_eq}
use Rattle.std.specs.List.{AllByRecursion}
use mathlib.Core.List.{head-eq_of_cons-eq, tail-eq_of_cons-eq}
use Rattle.std.proofs.lemmas.Bool.{cond-false}
use Rattle.std.proofs.lemmas.Option.{same_Some}
use Rattle.cds_object.specs.Path.{same_path}
use Rattle.cds_object.specs.Object.{ObjectRow}
use Rattle.cds_object.specs.Tree.{row_of}
use Rattle.cds_object.specs.declared.content.Content.{Content}
use Rattle.cds_catalog.specs.Library.{FolderMap, content_at}
use Rattle.cds_catalog.specs.Laws.{AreLibraries}
use Rattle.cds_catalog.specs.History.{History, latest, changes_of, sets, up_to}
use Rattle.cds_catalog.specs.Catalog.{PlacedRow, row_at, put_row, in_order, root_entry, placed_rows, catalog}
use Rattle.cds_catalog.specs.Replay.{stands, IsLegal}
use Rattle.cds_catalog.specs.declared.change.Change.{Change}
use Rattle.cds_catalog.specs.declared.change.Change.TheVariants.{Deletion, Addition, Modification}
use Rattle.cds_catalog.proofs.Paths.{same_path_is, same_path_swap}
use Rattle.cds_catalog.proofs.Maps.{Entry, each_found, latest_is_library, older_are_libraries}
use Rattle.cds_catalog.proofs.Found.{same_branches, history_is_legal}
use Rattle.cds_catalog.proofs.Numbers.{changes_since, changes_of_more}

-- ---- the last change that set what stands

-- what a change says of the object that it adds or modifies
abbrev content_set : Change → Option Content
content_set (Deletion at) = None
content_set (Addition at content) = Some content
content_set (Modification at content) = Some content

-- changes the newest of which set a content
record EndsWith (content : Content) (changes : List Change) : Type 0 where
  newest : Change
  older : List Change
  is : changes ≡ newest ∷ older
  content_is : content_set newest ≡ Some content

last_set : (p : List (List ℕ)) (x : Content) (changes : List Change) → stands changes p ≡ Some x → EndsWith x (up_to (sets p) changes)
last_set p x [] s = absurd (true≢false (sym (ap is_some s)))
last_set p x (Deletion at ∷ older) s =
    elim (same_path p at) as (λ b. cond b None (stands older p) ≡ Some x → EndsWith x (up_to (sets p) older)) [
      | true ↦ λ s. absurd (true≢false (sym (ap is_some s)))
      | false ↦ λ s. last_set p x older s
    ] s
last_set p x (Addition at content ∷ older) s =
    elim (same_path p at) as (λ b. cond b (Some content) (stands older p) ≡ Some x →
    EndsWith x (cond b (Addition at content ∷ older) (up_to (sets p) older))) [
      | true ↦ λ s. record { newest = Addition at content; older = older; is = refl; content_is = s }
      | false ↦ λ s. last_set p x older s
    ] s
last_set p x (Modification at content ∷ older) s =
    elim (same_path p at) as (λ b. cond b (Some content) (stands older p) ≡ Some x →
    EndsWith x (cond b (Modification at content ∷ older) (up_to (sets p) older))) [
      | true ↦ λ s. record { newest = Modification at content; older = older; is = refl; content_is = s }
      | false ↦ λ s. last_set p x older s
    ] s

same_end : (x y : Content) (changes others : List Change) → changes ≡ others → EndsWith x changes → EndsWith y others → x ≡ y
same_end x y changes others same one other =
    let heads : one.newest ≡ other.newest = head-eq_of_cons-eq (sym one.is ∙ same ∙ other.is) in
    same_Some x y (sym one.content_is ∙ ap content_set heads ∙ other.content_is)

not_empty : (x : Content) (changes : List Change) → EndsWith x changes → length changes ≡ 0 → ⊥
not_empty x changes ends none = let e : length (ends.newest ∷ ends.older) ≡ 0 = ap length (sym ends.is) ∙ none in omega arith

-- ---- the root is never set

root_bare : (changes : List Change) → IsLegal changes → stands changes [] ≡ None
root_bare [] legal = refl
root_bare (Deletion at ∷ older) legal = ap (cond (same_path [] at) None) (root_bare older legal.0) ∙ same_branches _ None
root_bare (Addition at content ∷ older) legal = cond-false _ _ _ (same_path_swap [] at ∙ legal.1.0) ∙ root_bare older legal.0
root_bare (Modification at content ∷ older) legal =
    elim (same_path [] at) as (λ b. same_path [] at ≡ b → cond b (Some content) (stands older []) ≡ None) [
      | true ↦ λ root. absurd (true≢false (ap is_some (sym legal.1.1 ∙ ap (stands older) (sym (same_path_is [] at root)) ∙ root_bare older legal.0)))
      | false ↦ λ other. root_bare older legal.0
    ] refl

pub root_never_set : (changes : List Change) → IsLegal changes → up_to (sets []) changes ≡ []
root_never_set [] legal = refl
root_never_set (Deletion at ∷ older) legal = root_never_set older legal.0
root_never_set (Addition at content ∷ older) legal = cond-false _ _ _ (same_path_swap [] at ∙ legal.1.0) ∙ root_never_set older legal.0
root_never_set (Modification at content ∷ older) legal =
    elim (same_path [] at) as (λ b. same_path [] at ≡ b → cond b (Modification at content ∷ older) (up_to (sets []) older) ≡ []) [
      | true ↦ λ root. absurd (true≢false (ap is_some (sym legal.1.1 ∙ ap (stands older) (sym (same_path_is [] at root)) ∙ root_bare older legal.0)))
      | false ↦ λ other. root_never_set older legal.0
    ] refl

-- ---- ends of one list of changes

-- changes that are the oldest ones of others
record IsEndOf (all changes : List Change) : Type 0 where
  newer : List Change
  is : all ≡ newer ++ changes

up_to_is_end : (test : Change → Bool) (changes : List Change) → IsEndOf changes (up_to test changes)
up_to_is_end test [] = record { newer = []; is = refl }
up_to_is_end test (change ∷ older) =
    elim (test change) as (λ b. IsEndOf (change ∷ older) (cond b (change ∷ older) (up_to test older))) [
      | true ↦ record { newer = []; is = refl }
      | false ↦ let end = up_to_is_end test older in record { newer = change ∷ end.newer; is = ap (λ (l : List Change). change ∷ l) end.is }
    ]

same_rest : (f g a b : List Change) → f ++ a ≡ g ++ b → length a ≡ length b → a ≡ b
same_rest [] [] a b e long = e
same_rest [] (y ∷ g) a b e long = let h : length a ≡ suc (length (g ++ b)) = ap length e in absurd (omega (arith, length-append g b))
same_rest (x ∷ f) [] a b e long = let h : suc (length (f ++ a)) ≡ length b = ap length e in absurd (omega (arith, length-append f a))
same_rest (x ∷ f) (y ∷ g) a b e long = same_rest f g a b (tail-eq_of_cons-eq e) long

-- ---- rows

-- a row is that of the root or of something in the map
abbrev pub IsOf : FolderMap → Entry → Type 0
IsOf library e = (e ≡ root_entry) ⊎ (content_at library e.0 ≡ Some e.1)

pub record HasEntry (first : ℕ) (changes : List Change) (library : FolderMap) (row : ObjectRow) : Type 0 where
  pub entry : Entry
  pub of : IsOf library entry
  pub is : row ≡ row_at first changes library entry

put_all : (P : PlacedRow → Type 0) (placed : PlacedRow) (rows : List PlacedRow) → P placed → AllByRecursion P rows → AllByRecursion P (put_row placed rows)
put_all P placed [] one all = (one, tt)
put_all P placed (next ∷ others) one all =
    elim (nat_lt placed.1.id next.1.id) as (λ b. AllByRecursion P (cond b (placed ∷ next ∷ others) (next ∷ put_row placed others))) [
      | true ↦ (one, all)
      | false ↦ (all.0, put_all P placed others one all.1)
    ]

in_order_all : (P : PlacedRow → Type 0) (rows : List PlacedRow) → AllByRecursion P rows → AllByRecursion P (in_order rows)
in_order_all P [] all = tt
in_order_all P (placed ∷ others) all = put_all P placed (in_order others) all.0 (in_order_all P others all.1)

rows_all : (P : ObjectRow → Type 0) (rows : List PlacedRow) → AllByRecursion (λ placed. P placed.1) rows → AllByRecursion P (map (λ placed. placed.1) rows)
rows_all P [] all = tt
rows_all P (placed ∷ others) all = (all.0, rows_all P others all.1)

entries_have_rows : (first : ℕ) (changes : List Change) (library es : FolderMap) → AllByRecursion (IsOf library) es →
    AllByRecursion (λ (placed : PlacedRow). HasEntry first changes library placed.1) (map (λ entry. (entry.0, row_at first changes library entry)) es)
entries_have_rows first changes library [] all = tt
entries_have_rows first changes library (e ∷ es) all = (record { entry = e; of = all.0; is = refl }, entries_have_rows first changes library es all.1)

found_is_of : (library es : FolderMap) → AllByRecursion (λ e. content_at library e.0 ≡ Some e.1) es → AllByRecursion (IsOf library) es
found_is_of library [] all = tt
found_is_of library (e ∷ es) all = (inr all.0, found_is_of library es all.1)

pub rows_have_entries : (history : History) → AreLibraries history.maps →
    AllByRecursion (HasEntry history.first (changes_of history.maps) (latest history.maps)) (catalog history)
rows_have_entries history all =
    let library : FolderMap = latest history.maps in
    let placed : List PlacedRow = map (λ entry. (entry.0, row_at history.first (changes_of history.maps) library entry)) (root_entry ∷ library) in
    let entries : AllByRecursion (IsOf library) (root_entry ∷ library)
    = (inl refl, found_is_of library library (each_found library (latest_is_library history.maps all).ascending)) in
    rows_all (HasEntry history.first (changes_of history.maps) library) (placed_rows history)
    (in_order_all (λ placed. HasEntry history.first (changes_of history.maps) library placed.1) placed
    (entries_have_rows history.first (changes_of history.maps) library (root_entry ∷ library) entries))

row_of_all : (P : ObjectRow → Type 0) (id : ℕ) (rows : List ObjectRow) → AllByRecursion P rows → (row : ObjectRow) → row_of id rows ≡ Some row → P row
row_of_all P id [] all row e = absurd (true≢false (sym (ap is_some e)))
row_of_all P id (next ∷ rows) all row e =
    elim (nat_eq next.id id) as (λ b. cond b (Some next) (row_of id rows) ≡ Some row → P row) [
      | true ↦ λ e. subst P (same_Some next row e) all.0
      | false ↦ λ e. row_of_all P id rows all.1 row e
    ] e

-- ---- the law

same_number_same_content : (first : ℕ) (newer older : List FolderMap) → AreLibraries (newer ++ older) → (now before : ObjectRow) →
    HasEntry first (changes_of (newer ++ older)) (latest (newer ++ older)) now →
    HasEntry first (changes_of older) (latest older) before → now.object_update ≡ before.object_update → now.content ≡ before.content
same_number_same_content first newer older all now before one other same =
    ap (λ r. r.content) one.is ∙ by one.of other.of ∙ sym (ap (λ r. r.content) other.is)
  where
    all_older : AreLibraries older
    all_older = older_are_libraries newer older all

    set_now : List Change
    set_now = up_to (sets one.entry.0) (changes_of (newer ++ older))

    set_before : List Change
    set_before = up_to (sets other.entry.0) (changes_of older)

    as_long : length set_now ≡ length set_before
    as_long =
        let e : first + length set_now ≡ first + length set_before
        = sym (ap (λ r. r.object_update) one.is) ∙ same ∙ ap (λ r. r.object_update) other.is in
        omega (arith, e)

    same_sets : set_now ≡ set_before
    same_sets =
        let end = up_to_is_end (sets one.entry.0) (changes_of (newer ++ older)) in
        let older_end = up_to_is_end (sets other.entry.0) (changes_of older) in
        same_rest end.newer (changes_since newer older ++ older_end.newer) set_now set_before
        (sym end.is ∙ changes_of_more newer older ∙ ap (λ (l : List Change). changes_since newer older ++ l) older_end.is
        ∙ sym (append_assoc (changes_since newer older) older_end.newer set_before))
        as_long

    ends_now : content_at (latest (newer ++ older)) one.entry.0 ≡ Some one.entry.1 → EndsWith one.entry.1 set_now
    ends_now here = last_set one.entry.0 one.entry.1 (changes_of (newer ++ older)) ((history_is_legal (newer ++ older) all).1 one.entry.0 ∙ here)

    ends_before : content_at (latest older) other.entry.0 ≡ Some other.entry.1 → EndsWith other.entry.1 set_before
    ends_before here = last_set other.entry.0 other.entry.1 (changes_of older) ((history_is_legal older all_older).1 other.entry.0 ∙ here)

    root_now : one.entry ≡ root_entry → length set_now ≡ 0
    root_now root = ap (λ (e : Entry). length (up_to (sets e.0) (changes_of (newer ++ older)))) root ∙ ap length (root_never_set _ (history_is_legal (newer ++ older) all).0)

    root_before : other.entry ≡ root_entry → length set_before ≡ 0
    root_before root = ap (λ (e : Entry). length (up_to (sets e.0) (changes_of older))) root ∙ ap length (root_never_set _ (history_is_legal older all_older).0)

    by : IsOf (latest (newer ++ older)) one.entry → IsOf (latest older) other.entry → one.entry.1 ≡ other.entry.1
    by (inl root) (inl also) = ap (λ (e : Entry). e.1) (root ∙ sym also)
    by (inl root) (inr here) = absurd (not_empty _ set_before (ends_before here) (sym as_long ∙ root_now root))
    by (inr here) (inl root) = absurd (not_empty _ set_now (ends_now here) (as_long ∙ root_before root))
    by (inr here) (inr there) = same_end _ _ set_now set_before same_sets (ends_now here) (ends_before there)

pub versions_determine : (first : ℕ) (newer older : List FolderMap) (id : ℕ) (now before : ObjectRow) → AreLibraries (newer ++ older) →
    row_of id (catalog (record { first = first; maps = newer ++ older })) ≡ Some now →
    row_of id (catalog (record { first = first; maps = older })) ≡ Some before →
    now.object_update ≡ before.object_update → now.content ≡ before.content
versions_determine first newer older id now before all in_new in_old same =
    same_number_same_content first newer older all now before
    (row_of_all _ id _ (rows_have_entries (record { first = first; maps = newer ++ older }) all) now in_new)
    (row_of_all _ id _ (rows_have_entries (record { first = first; maps = older }) (older_are_libraries newer older all)) before in_old)
    same
