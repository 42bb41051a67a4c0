-- What stands in the midst of a scan's changes, for whoever makes them one by one: the rows over the changes so far,
-- within the numbers that stand; and the folder map that the rows of a catalog tell.
use Rattle.std.proofs.Common.{◌≡◌, ◌+◌, ◌<◌, ◌≤◌, ℕ, Bool, true, false, cond, not, filter, map, List, [], ◌∷◌, ◌++◌, length, Option, Some, None, MatchOption, refl, sym, ◌∙◌, ap, subst, arith, append_assoc, length-append, map-id}
use Rattle.std.specs.List.{AllByRecursion, count_by}
use Rattle.std.specs.BTreeMap.{insert_entry}
use Rattle.std.proofs.lemmas.List.Sums.{count_by-le-length}
use Rattle.cds_object.specs.Path.{path_cmp, same_path, parent_of}
use Rattle.cds_object.specs.declared.content.Content.{Content}
use Rattle.cds_object.specs.declared.content.Content.TheVariants.{Folder, Track}
use Rattle.cds_catalog.specs.Library.{FolderMap, content_at, found}
use Rattle.cds_catalog.specs.Laws.{Ascends, IsLibrary, AreLibraries, IsWithin}
use Rattle.cds_catalog.specs.History.{History, latest, changes_of, end_of, with_scan, is_addition}
use Rattle.cds_catalog.specs.Catalog.{PlacedRow, trackers_of, child_count_of, placed_rows}
use Rattle.cds_catalog.specs.Replay.{IsLegal}
use Rattle.cds_catalog.specs.Steps.{standing_of, stepped}
use Rattle.cds_catalog.specs.declared.change.Change.{Change}
use Rattle.cds_catalog.specs.declared.change.Change.TheVariants.{Deletion, Addition, Modification}
use Rattle.cds_catalog.proofs.Inserted.{insert_ascends, insert_found, same_library}
use Rattle.cds_catalog.proofs.Maps.{latest_is_library}
use Rattle.cds_catalog.proofs.Found.{history_is_legal}
use Rattle.cds_catalog.proofs.StepsPaths.{Place, swapped}
use Rattle.cds_catalog.proofs.Paths.{same_path_is}
use Rattle.cds_catalog.proofs.StepsFind.{Entry, find_in, Apart, each-all, each-map, none_from_away, Apart_from_Rising, count_removed, count_by-cons}
use Rattle.cds_catalog.proofs.StepsLive.{shown, find_live}
use Rattle.cds_catalog.proofs.StepsIds.{ids_rise}
use Rattle.cds_catalog.proofs.StepsRows.{map_map, row_over, rows_over, standing_over, stepped_over}
use Rattle.cds_catalog.proofs.StepsCatalog.{placed_rows_over, standing_is_over}
use Rattle.cds_catalog.proofs.StepsWithin.{length-map, row_within}
use Rattle.cds_catalog.proofs.Live.{live}

-- ---- in the midst of a scan

pub older_are_legal : (later newer : List Change) → IsLegal (later ++ newer) → IsLegal newer
older_are_legal [] newer l = l
older_are_legal (change ∷ later) newer l = older_are_legal later newer l.0

pub legal_within_scan : (history : History) (library : FolderMap) → AreLibraries history.maps → IsLibrary library → (later newer : List Change)
    → found (latest history.maps) library ≡ later ++ newer → IsLegal (newer ++ changes_of history.maps)
legal_within_scan history library all is later newer e =
    older_are_legal later (newer ++ changes_of history.maps)
    (subst IsLegal (ap (λ l. l ++ changes_of history.maps) e ∙ append_assoc later newer (changes_of history.maps)) (history_is_legal (library ∷ history.maps) (is, all)).0)

-- what stands once the first changes of a scan, `newer`, are made
pub standing_within_scan : (history : History) (library : FolderMap) → AreLibraries history.maps → IsLibrary library → (later newer : List Change)
    → found (latest history.maps) library ≡ later ++ newer
    → stepped (standing_of history) newer ≡ standing_over history.first (newer ++ changes_of history.maps)
standing_within_scan history library all is later newer e =
    ap (λ s. stepped s newer) (standing_is_over history all)
    ∙ sym (stepped_over history.first newer (changes_of history.maps) (legal_within_scan history library all is later newer e))

-- no number in the midst of a scan is above its end
pub number_within_scan : (history : History) (library : FolderMap) (later newer : List Change) → found (latest history.maps) library ≡ later ++ newer
    → history.first + length (newer ++ changes_of history.maps) ≤ end_of (with_scan history library)
number_within_scan history library later newer e =
    let made : List Change = found (latest history.maps) library in
    let all = length-append made (changes_of history.maps) in
    let some = length-append newer (changes_of history.maps) in
    let parts = ap length e ∙ length-append later newer in
    omega arith

-- ---- bounds of the rows over any changes

pub rows_over_within : (first : ℕ) (changes : List Change) → AllByRecursion (λ (placed : PlacedRow). IsWithin (standing_over first changes) placed.1) (rows_over first changes)
rows_over_within first changes =
    each-map (λ (placed : PlacedRow). IsWithin (standing_over first changes) placed.1) (row_over first changes) (shown changes)
    (each-all (λ e. IsWithin (standing_over first changes) (row_over first changes e).1) (row_within (rows_over first changes) first changes (live changes)) (shown changes))

length-filter-le : {X : Type 0} (test : X → Bool) (xs : List X) → length (filter test xs) ≤ length xs
length-filter-le test [] = omega arith
length-filter-le test (x ∷ xs) = by (test x) (length-filter-le test xs)
  where
    by : (b : Bool) → length (filter test xs) ≤ length xs → length (cond b (x ∷ filter test xs) (filter test xs)) ≤ length (x ∷ xs)
    by true r = omega arith
    by false r = omega arith

length-live : (changes : List Change) → length (live changes) ≤ count_by is_addition changes
length-live [] = omega arith
length-live (Deletion at ∷ older) =
    let kept = length-filter-le (λ (e : Entry). not (same_path at e.0)) (live older) in
    let before = length-live older in
    let counted = count_by-cons is_addition (Deletion at) older in
    omega arith
length-live (Addition at added ∷ older) =
    let longer = length-append (live older) ((at, added) ∷ []) in
    let before = length-live older in
    let counted = count_by-cons is_addition (Addition at added) older in
    omega arith
length-live (Modification at written ∷ older) =
    let kept = length-map (λ (e : Entry). cond (same_path at e.0) (e.0, written) e) (live older) in
    let before = length-live older in
    let counted = count_by-cons is_addition (Modification at written) older in
    omega arith

below_both : (a b c : ℕ) → a ≤ b → b ≤ c → a ≤ c
below_both a b c h k = omega arith

-- no folder counts more children than ids were drawn
pub children_within : (first : ℕ) (changes : List Change)
    → AllByRecursion (λ (placed : PlacedRow). MatchOption placed.1.trackers (Unit {0}) (λ t. t.child_count ≤ count_by is_addition changes)) (rows_over first changes)
children_within first changes =
    each-map (λ (placed : PlacedRow). MatchOption placed.1.trackers (Unit {0}) (λ t. t.child_count ≤ count_by is_addition changes)) (row_over first changes) (shown changes)
    (each-all (λ e. MatchOption (row_over first changes e).1.trackers (Unit {0}) (λ t. t.child_count ≤ count_by is_addition changes)) (λ e. one e.0 e.1) (shown changes))
  where
    one : (p : Place) (content : Content) → MatchOption (trackers_of first changes (live changes) p content) (Unit {0}) (λ t. t.child_count ≤ count_by is_addition changes)
    one p (Folder title) = below_both _ _ _ (count_by-le-length (λ (e : Entry). same_path p (parent_of e.0)) (live changes)) (length-live changes)
    one p (Track track) = tt

-- the folder that the next deletion is in counts a child
pub children_before_deletion : (first : ℕ) (older : List Change) (at : Place) → IsLegal (Deletion at ∷ older)
    → AllByRecursion (λ (placed : PlacedRow). same_path (parent_of at) placed.0 ≡ true → MatchOption placed.1.trackers (Unit {0}) (λ t. 0 < t.child_count)) (rows_over first older)
children_before_deletion first older at l =
    each-map (λ (placed : PlacedRow). same_path (parent_of at) placed.0 ≡ true → MatchOption placed.1.trackers (Unit {0}) (λ t. 0 < t.child_count)) (row_over first older) (shown older)
    (each-all (λ e. same_path (parent_of at) e.0 ≡ true → MatchOption (row_over first older e).1.trackers (Unit {0}) (λ t. 0 < t.child_count)) (λ e. one e.0 e.1) (shown older))
  where
    some : (p : Place) → same_path (parent_of at) p ≡ true → 0 < child_count_of (live older) p
    some p x = counted _ _ _ (count_removed (λ q. same_path p (parent_of q)) (live older) at l.1.0 (Apart_from_Rising _ (live older) (ids_rise older l.0).1) (find_live older l.0 at ∙ l.1.1))
        (ap (λ b. cond b 1 0) (swapped (parent_of at) p true x))
      where
        counted : (a t b : ℕ) → a ≡ t + b → t ≡ 1 → 0 < a
        counted a t b h k = omega arith

    one : (p : Place) (content : Content) → same_path (parent_of at) p ≡ true → MatchOption (trackers_of first older (live older) p content) (Unit {0}) (λ t. 0 < t.child_count)
    one p (Folder title) x = some p x
    one p (Track track) x = tt

-- ---- the folder map that the rows tell

-- entries put into a folder map one after another
abbrev pub with_entries : FolderMap → FolderMap → FolderMap
with_entries library [] = library
with_entries library (e ∷ es) = with_entries (insert_entry path_cmp library e.0 e.1) es

with_entries_ascends : (library es : FolderMap) → Ascends library → Ascends (with_entries library es)
with_entries_ascends library [] a = a
with_entries_ascends library (e ∷ es) a = with_entries_ascends (insert_entry path_cmp library e.0 e.1) es (insert_ascends e.0 e.1 library a)

abbrev or_else : Option Content → Option Content → Option Content
or_else None other = other
or_else (Some content) other = Some content

with_entries_found : (library es : FolderMap) (p : Place) → Apart es → content_at (with_entries library es) p ≡ or_else (find_in es p) (content_at library p)
with_entries_found library [] p a = refl
with_entries_found library (e ∷ es) p a =
    with_entries_found (insert_entry path_cmp library e.0 e.1) es p a.1
    ∙ ap (or_else (find_in es p)) (insert_found p e.0 e.1 library)
    ∙ by (same_path p e.0) refl
  where
    by : (b : Bool) → same_path p e.0 ≡ b
        → or_else (find_in es p) (cond b (Some e.1) (content_at library p)) ≡ or_else (cond b (Some e.1) (find_in es p)) (content_at library p)
    by true x = ap (λ o. or_else o (Some e.1)) (ap (find_in es) (same_path_is p e.0 x) ∙ none_from_away es e.0 a.0)
    by false x = refl

or_nothing : (o : Option Content) → or_else o None ≡ o
or_nothing None = refl
or_nothing (Some content) = refl

-- all that is live, put in one after another, is the newest folder map
pub live_is_library : (maps : List FolderMap) → AreLibraries maps → with_entries [] (live (changes_of maps)) ≡ latest maps
live_is_library maps all =
    same_library (with_entries [] (live (changes_of maps))) (latest maps) (with_entries_ascends [] (live (changes_of maps)) tt) (latest_is_library maps all).ascending
    (λ p. with_entries_found [] (live (changes_of maps)) p (Apart_from_Rising _ (live (changes_of maps)) (ids_rise (changes_of maps) legal).1)
    ∙ or_nothing (find_in (live (changes_of maps)) p)
    ∙ find_live (changes_of maps) legal p
    ∙ (history_is_legal maps all).1 p)
  where
    legal : IsLegal (changes_of maps)
    legal = (history_is_legal maps all).0

-- what a row says of its object, at its place
abbrev pub entry_of : PlacedRow → Entry
entry_of placed = (placed.0, placed.1.content)

-- the rows of a catalog with their places: the root's, and those of all that is live, in the order of ids
pub entries_of_rows : (history : History) → AreLibraries history.maps → map entry_of (placed_rows history) ≡ shown (changes_of history.maps)
entries_of_rows history all =
    ap (map entry_of) (placed_rows_over history.first history.maps all) ∙ map_map entry_of (row_over history.first (changes_of history.maps)) (shown (changes_of history.maps))
    ∙ map-id (shown (changes_of history.maps))
