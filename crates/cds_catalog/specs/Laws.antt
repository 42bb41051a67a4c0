-- The laws of the catalog, on which everything above it depends.
use Rattle.std.specs.Prelude.{◌≡◌, ◌↔◌, ◌+◌, ◌≤◌, ℕ, Bool, true, false, List, [], ◌∷◌, ◌++◌, length, Option, Some, None, MatchOption, IsTrue}
use Rattle.std.specs.List.{AllByRecursion, list_any}
use Rattle.std.specs.Ordering.{is_lt}
use Rattle.cds_object.specs.First.{NoneRefused, IsFirstRefused}
use Rattle.cds_object.specs.Path.{path_cmp, same_path, parent_of}
use Rattle.cds_object.specs.Object.{ObjectRow, is_folder}
use Rattle.cds_object.specs.Tree.{IsTree, row_of}
use Rattle.cds_object.specs.declared.content.Content.{Content}
use Rattle.cds_object.specs.declared.record.Record.{Record}
use Rattle.cds_catalog.specs.Library.{FolderMap, content_at, map_of, found}
use Rattle.cds_catalog.specs.History.{History, latest, changes_of, end_of, with_scan}
use Rattle.cds_catalog.specs.Catalog.{catalog, catalog_at}
use Rattle.cds_catalog.specs.Replay.{stands, IsLegal}
use Rattle.cds_catalog.specs.Scans.{is_bad, bad_record}
use Rattle.cds_catalog.specs.Steps.{Standing, standing_of, stepped}

-- the places rise strictly
abbrev pub Ascends : FolderMap → Type 0
Ascends [] = Unit {0}
Ascends (entry ∷ []) = Unit {0}
Ascends (entry ∷ next ∷ others) = IsTrue (is_lt (path_cmp entry.0 next.0)) × Ascends (next ∷ others)

-- whether a place is the root's or that of a folder of the map
abbrev pub holds : FolderMap → List (List ℕ) → Bool
holds library [] = true
holds library (name ∷ names) = folder_there (content_at library (name ∷ names))
  where
    folder_there : Option Content → Bool
    folder_there None = false
    folder_there (Some content) = is_folder content

-- a folder map: places rise strictly, the root's is not among them, and a folder or the root holds each
pub record IsLibrary (library : FolderMap) : Type 0 where
  pub ascending : Ascends library
  pub rootless : AllByRecursion (λ entry. same_path entry.0 [] ≡ false) library
  pub held : AllByRecursion (λ entry. holds library (parent_of entry.0) ≡ true) library

abbrev pub AreLibraries : List FolderMap → Type 0
AreLibraries = AllByRecursion IsLibrary

-- records that can all stand make a folder map, with as many places as records
abbrev pub accepted_records_are_a_library : Type 0
accepted_records_are_a_library = (records : List Record) → bad_record records ≡ None →
    IsLibrary (map_of records) × (length (map_of records) ≡ length records)

-- the record of a line, counted from 1, is the first that cannot stand
pub record IsBadLine (records : List Record) (line : ℕ) : Type 0 where
  pub before : List Record
  pub bad : Record
  pub rest : List Record
  pub first : IsFirstRefused (is_bad records) records before bad rest
  pub place : line ≡ length before + 1

-- a line is named if and only if its record is the first that cannot stand; none is if every record can
abbrev pub bad_records_have_their_line : Type 0
bad_records_have_their_line =
    ((records : List Record) (line : ℕ) → (bad_record records ≡ Some line) ↔ IsBadLine records line)
    × ((records : List Record) → (bad_record records ≡ None) ↔ NoneRefused (is_bad records) records)

-- if all records can stand, at the place of each record stands what it says, and nothing stands elsewhere
abbrev pub accepted_records_stand_at_their_places : Type 0
accepted_records_stand_at_their_places = (records : List Record) → bad_record records ≡ None →
    AllByRecursion (λ r. content_at (map_of records) r.path ≡ Some r.content) records
    × ((path : List (List ℕ)) → list_any (λ r. same_path path r.path) records ≡ false → content_at (map_of records) path ≡ None)

-- the changes of a scan, one by one from what stood before it, lead to the catalog counted afresh after it
abbrev pub steps_lead_to_the_catalog : Type 0
steps_lead_to_the_catalog = (history : History) (library : FolderMap) → AreLibraries history.maps → IsLibrary library →
    standing_of (with_scan history library) ≡ stepped (standing_of history) (found (latest history.maps) library)

-- the catalog's rows are a tree
abbrev pub catalogs_are_trees : Type 0
catalogs_are_trees = (history : History) → AreLibraries history.maps → IsTree (catalog history)

-- between two equal numbers no change lies: the changes are the same, and so are the folder map and the catalog
abbrev pub equal_numbers_have_equal_catalogs : Type 0
equal_numbers_have_equal_catalogs = (first : ℕ) (newer older : List FolderMap) → AreLibraries (newer ++ older) →
    end_of (record { first = first; maps = newer ++ older }) ≡ end_of (record { first = first; maps = older }) →
    (changes_of (newer ++ older) ≡ changes_of older) × (latest (newer ++ older) ≡ latest older)
    × (catalog (record { first = first; maps = newer ++ older }) ≡ catalog (record { first = first; maps = older }))

-- the catalog at a scan end is that of each history that ended there
abbrev pub catalog_at_a_scan_end : Type 0
catalog_at_a_scan_end = (first : ℕ) (newer older : List FolderMap) → AreLibraries (newer ++ older) →
    catalog_at first (newer ++ older) (end_of (record { first = first; maps = older })) ≡ catalog (record { first = first; maps = older })

-- a scan that finds what the last one found makes no change, and keeps the number, the ids drawn and all rows
abbrev pub equal_libraries_make_no_change : Type 0
equal_libraries_make_no_change =
    ((library : FolderMap) → IsLibrary library → found library library ≡ [])
    × ((history : History) → AreLibraries history.maps →
    standing_of (with_scan history (latest history.maps)) ≡ standing_of history)

-- no number of a row is above the number that stands, and no id above the ids that were drawn
pub record IsWithin (standing : Standing) (row : ObjectRow) : Type 0 where
  pub id : row.id ≤ standing.drawn
  pub object_update : row.object_update ≤ standing.number
  pub trackers : MatchOption row.trackers (Unit {0}) (λ t. (t.container_update ≤ standing.number) × (t.deleted ≤ standing.number))

abbrev pub rows_are_within : Type 0
rows_are_within = (history : History) → AreLibraries history.maps →
    AllByRecursion (IsWithin (standing_of history)) (catalog history) × ((standing_of history).drawn ≤ length (changes_of history.maps))
    × (length (catalog history) ≡ length (latest history.maps) + 1)

-- within a history an id and an objectUpdateID determine what the object says
abbrev pub versions_determine_contents : Type 0
versions_determine_contents = (first : ℕ) (newer older : List FolderMap) (id : ℕ) (now before : ObjectRow) → AreLibraries (newer ++ older) →
    row_of id (catalog (record { first = first; maps = newer ++ older })) ≡ Some now →
    row_of id (catalog (record { first = first; maps = older })) ≡ Some before →
    now.object_update ≡ before.object_update → now.content ≡ before.content

-- what stands after all changes is what the newest folder map has
abbrev pub changes_replay_the_library : Type 0
changes_replay_the_library = (maps : List FolderMap) → AreLibraries maps →
    (path : List (List ℕ)) → stands (changes_of maps) path ≡ content_at (latest maps) path

-- each change may follow those before it
abbrev pub changes_are_legal : Type 0
changes_are_legal = (maps : List FolderMap) → AreLibraries maps → IsLegal (changes_of maps)
