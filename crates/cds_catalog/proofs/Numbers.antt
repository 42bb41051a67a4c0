-- Numbers of a history: equal numbers have equal folder maps and catalogs, and equal maps no change between them.
use Rattle.std.proofs.Common.{◌≡◌, ℕ, ◌+◌, ◌≤◌, true, false, cond, List, [], ◌∷◌, ◌++◌, map, reverse, length, Option, Some, None, refl, sym, ap, ◌∙◌, append_assoc, length-append, arith, nat_le, leb-true, le-leb, le_refl}
use Rattle.std.specs.List.{AllByRecursion, filter_map, cons_option, count_by}
use Rattle.std.proofs.lemmas.Bool.{cond-true}
use Rattle.cds_object.specs.Object.{ObjectRow}
use Rattle.cds_catalog.specs.Library.{FolderMap, content_at, departure, arrival, found}
use Rattle.cds_catalog.specs.Laws.{IsLibrary, AreLibraries}
use Rattle.cds_catalog.specs.History.{History, latest, changes_of, end_of, with_scan, is_addition}
use Rattle.cds_catalog.specs.Steps.{Standing, standing_of}
use Rattle.cds_catalog.specs.Catalog.{row_at, in_order, root_entry, catalog, catalog_at}
use Rattle.cds_catalog.specs.Replay.{stands}
use Rattle.cds_catalog.specs.declared.change.Change.{Change}
use Rattle.cds_catalog.proofs.Contents.{same_kind_itself, same_content_itself}
use Rattle.cds_catalog.proofs.Maps.{Entry, each_found, latest_is_library, older_are_libraries}
use Rattle.cds_catalog.proofs.Found.{departs, arrives, history_is_legal}
use Rattle.cds_catalog.proofs.Inserted.{same_library}

-- ---- no change between equal maps

no_departure : (e : Entry) → departs e (Some e.1) ≡ None
no_departure e = cond-true _ _ _ (same_kind_itself e.1)

no_arrival : (e : Entry) → arrives e (Some e.1) ≡ None
no_arrival e = cond-true _ _ _ (same_kind_itself e.1) ∙ cond-true _ _ _ (same_content_itself e.1)

none_given : (f : Entry → Option Change) (es : FolderMap) → AllByRecursion (λ e. f e ≡ None) es → filter_map f es ≡ []
none_given f [] all = refl
none_given f (e ∷ es) all = (λ i. cons_option (all.0 i) (filter_map f es)) ∙ none_given f es all.1

pub same_map_no_change : (library : FolderMap) → IsLibrary library → found library library ≡ []
same_map_no_change library is =
    (λ i. reverse (none_given (arrival library) library (none_arrives library (each_found library is.ascending)) i)
    ++ none_given (departure library) library (none_departs library (each_found library is.ascending)) i)
  where
    none_departs : (es : FolderMap) → AllByRecursion (λ e. content_at library e.0 ≡ Some e.1) es → AllByRecursion (λ e. departure library e ≡ None) es
    none_departs [] here = tt
    none_departs (e ∷ es) here = (ap (departs e) here.0 ∙ no_departure e, none_departs es here.1)

    none_arrives : (es : FolderMap) → AllByRecursion (λ e. content_at library e.0 ≡ Some e.1) es → AllByRecursion (λ e. arrival library e ≡ None) es
    none_arrives [] here = tt
    none_arrives (e ∷ es) here = (ap (arrives e) here.0 ∙ no_arrival e, none_arrives es here.1)

-- ---- the changes of more scans

-- the changes that came after older scans
abbrev pub changes_since : List FolderMap → List FolderMap → List Change
changes_since [] older = []
changes_since (library ∷ newer) older = found (latest (newer ++ older)) library ++ changes_since newer older

pub changes_of_more : (newer older : List FolderMap) → changes_of (newer ++ older) ≡ changes_since newer older ++ changes_of older
changes_of_more [] older = refl
changes_of_more (library ∷ newer) older =
    ap (λ (l : List Change). found (latest (newer ++ older)) library ++ l) (changes_of_more newer older)
    ∙ sym (append_assoc (found (latest (newer ++ older)) library) (changes_since newer older) (changes_of older))

pub length_of_more : (newer older : List FolderMap) → length (changes_of (newer ++ older)) ≡ length (changes_since newer older) + length (changes_of older)
length_of_more newer older = ap length (changes_of_more newer older) ∙ length-append (changes_since newer older) (changes_of older)

empty_list : (changes : List Change) → length changes ≡ 0 → changes ≡ []
empty_list [] e = refl
empty_list (change ∷ changes) e = absurd (omega arith)

pub ends_rise : (first : ℕ) (newer older : List FolderMap) → end_of (record { first = first; maps = older }) ≤ end_of (record { first = first; maps = newer ++ older })
ends_rise first newer older = omega (arith, length_of_more newer older)

pub equal_ends_equal_changes : (first : ℕ) (newer older : List FolderMap) →
    end_of (record { first = first; maps = newer ++ older }) ≡ end_of (record { first = first; maps = older }) →
    changes_of (newer ++ older) ≡ changes_of older
equal_ends_equal_changes first newer older ends =
    let none : length (changes_since newer older) ≡ 0 = omega (arith, length_of_more newer older, ends) in
    changes_of_more newer older ∙ ap (λ (l : List Change). l ++ changes_of older) (empty_list (changes_since newer older) none)

pub equal_ends_equal_maps : (first : ℕ) (newer older : List FolderMap) → AreLibraries (newer ++ older) →
    end_of (record { first = first; maps = newer ++ older }) ≡ end_of (record { first = first; maps = older }) →
    latest (newer ++ older) ≡ latest older
equal_ends_equal_maps first newer older all ends =
    let before = older_are_libraries newer older all in
    same_library (latest (newer ++ older)) (latest older)
    (latest_is_library (newer ++ older) all).ascending (latest_is_library older before).ascending
    (λ p.
    sym ((history_is_legal (newer ++ older) all).1 p)
    ∙ ap (λ changes. stands changes p) (equal_ends_equal_changes first newer older ends)
    ∙ (history_is_legal older before).1 p)

-- ---- catalogs

-- the catalog depends on the first number, the changes and the newest map alone
abbrev catalog_from : ℕ → List Change → FolderMap → List ObjectRow
catalog_from first changes library =
    map (λ placed. placed.1) (in_order (map (λ entry. (entry.0, row_at first changes library entry)) (root_entry ∷ library)))

pub equal_ends_equal_catalogs : (first : ℕ) (newer older : List FolderMap) → AreLibraries (newer ++ older) →
    end_of (record { first = first; maps = newer ++ older }) ≡ end_of (record { first = first; maps = older }) →
    catalog (record { first = first; maps = newer ++ older }) ≡ catalog (record { first = first; maps = older })
equal_ends_equal_catalogs first newer older all ends =
    λ i. catalog_from first (equal_ends_equal_changes first newer older ends i) (equal_ends_equal_maps first newer older all ends i)

-- what stands depends on the first number, the changes and the newest map alone
abbrev standing_from : ℕ → List Change → FolderMap → Standing
standing_from first changes library = record {
  number = first + length changes;
  drawn = count_by is_addition changes;
  rows = in_order (map (λ entry. (entry.0, row_at first changes library entry)) (root_entry ∷ library));
}

-- a scan that finds what the last one found leaves what stands
pub same_scan_keeps : (history : History) → AreLibraries history.maps →
    standing_of (with_scan history (latest history.maps)) ≡ standing_of history
same_scan_keeps history all =
    let none = same_map_no_change (latest history.maps) (latest_is_library history.maps all) in
    λ i. standing_from history.first (none i ++ changes_of history.maps) (latest history.maps)

-- at the end of the last scan stands the catalog after it
catalog_at_own_end : (first : ℕ) (maps : List FolderMap) →
    catalog_at first maps (end_of (record { first = first; maps = maps })) ≡ catalog (record { first = first; maps = maps })
catalog_at_own_end first [] = refl
catalog_at_own_end first (library ∷ older) =
    cond-true _ _ _ (le-leb (end_of (record { first = first; maps = library ∷ older })) (end_of (record { first = first; maps = library ∷ older })) (le_refl _))

pub catalog_at_end : (first : ℕ) (newer older : List FolderMap) → AreLibraries (newer ++ older) →
    catalog_at first (newer ++ older) (end_of (record { first = first; maps = older })) ≡ catalog (record { first = first; maps = older })
catalog_at_end first [] older all = catalog_at_own_end first older
catalog_at_end first (library ∷ newer) older all =
    elim (nat_le now then) as (λ b. nat_le now then ≡ b →
    cond b (catalog (record { first = first; maps = library ∷ (newer ++ older) })) (catalog_at first (newer ++ older) then)
    ≡ catalog (record { first = first; maps = older })) [
      | true ↦ λ reached.
          let le : now ≤ then = leb-true now then reached in
          let ge : then ≤ now = ends_rise first (library ∷ newer) older in
          equal_ends_equal_catalogs first (library ∷ newer) older all (omega arith)
      | false ↦ λ later. catalog_at_end first newer older all.1
    ] refl
  where
    now : ℕ
    now = end_of (record { first = first; maps = library ∷ (newer ++ older) })

    then : ℕ
    then = end_of (record { first = first; maps = older })
