-- The catalog, counted afresh over the newest folder map and all changes (UPnP ContentDirectory:4 on object ids, objectUpdateID,
-- containerUpdateID and totalDeletedChildCount; this project's profile if that leaves a choice).
use Rattle.std.specs.Prelude.{◌+◌, ℕ, cond, nat_le, nat_lt, max, List, [], ◌∷◌, map, length, Option, Some, None, codes}
use Rattle.std.specs.List.{count_by}
use Rattle.cds_object.specs.Path.{same_path, parent_of}
use Rattle.cds_object.specs.Object.{ObjectRow}
use Rattle.cds_object.specs.declared.content.Content.{Content}
use Rattle.cds_object.specs.declared.content.Content.TheVariants.{Folder, Track}
use Rattle.cds_object.specs.declared.row.Trackers.{Trackers}
use Rattle.cds_catalog.specs.Library.{FolderMap}
use Rattle.cds_catalog.specs.History.{History, latest, changes_of, end_of, is_addition, adds, sets, is_under, deletes_under, up_to, after}
use Rattle.cds_catalog.specs.declared.change.Change.{Change}

-- the id of what stands at a place: how many additions there were up to and with the place's last one; 0 for the root,
-- which was never added
abbrev pub id_of : List Change → List (List ℕ) → ℕ
id_of changes path = count_by is_addition (up_to (adds path) changes)

-- the id of the parent of what stands at a place; the root has none
abbrev pub parent_id_of : List Change → List (List ℕ) → Option ℕ
parent_id_of changes [] = None
parent_id_of changes (name ∷ names) = Some (id_of changes (parent_of (name ∷ names)))

-- the number of the last change that added or modified it, or the first number
abbrev pub object_update_of : ℕ → List Change → List (List ℕ) → ℕ
object_update_of first changes path = first + length (up_to (sets path) changes)

-- the number of the last change that added it or named it as parent, whichever is the greater, or the first number
abbrev pub container_update_of : ℕ → List Change → List (List ℕ) → ℕ
container_update_of first changes path =
    first + max (length (up_to (adds path) changes)) (length (up_to (is_under path) changes))

-- how many deletions named it as parent since it was added
abbrev pub deleted_of : List Change → List (List ℕ) → ℕ
deleted_of changes path = count_by (deletes_under path) (after (adds path) changes)

-- how many places of the folder map have it as parent
abbrev pub child_count_of : FolderMap → List (List ℕ) → ℕ
child_count_of library path = count_by (λ entry. same_path path (parent_of entry.0)) library

-- the trackers of a folder; a track has none
abbrev pub trackers_of : ℕ → List Change → FolderMap → List (List ℕ) → Content → Option Trackers
trackers_of first changes library path (Folder title) = Some (record {
  container_update = container_update_of first changes path;
  child_count = child_count_of library path;
  deleted = deleted_of changes path;
})
trackers_of first changes library path (Track track) = None

-- the row of what stands at a place
abbrev pub row_at : ℕ → List Change → FolderMap → (List (List ℕ) × Content) → ObjectRow
row_at first changes library entry = record {
  id = id_of changes entry.0;
  parent = parent_id_of changes entry.0;
  content = entry.1;
  object_update = object_update_of first changes entry.0;
  trackers = trackers_of first changes library entry.0 entry.1;
}

-- a row with its place
abbrev pub PlacedRow : Type 0
PlacedRow = List (List ℕ) × ObjectRow

-- a row put among others in ascending order of ids
abbrev pub put_row : PlacedRow → List PlacedRow → List PlacedRow
put_row placed [] = placed ∷ []
put_row placed (next ∷ others) = cond (nat_lt placed.1.id next.1.id) (placed ∷ next ∷ others) (next ∷ put_row placed others)

abbrev pub in_order : List PlacedRow → List PlacedRow
in_order [] = []
in_order (placed ∷ others) = put_row placed (in_order others)

-- the root, which every library has at the place without names
abbrev pub root_entry : List (List ℕ) × Content
root_entry = ([], Folder (codes "root"))

-- the rows after all scans of a history with their places, in ascending order of ids
abbrev pub placed_rows : History → List PlacedRow
placed_rows history =
    in_order (map (λ entry. (entry.0, row_at history.first (changes_of history.maps) (latest history.maps) entry)) (root_entry ∷ latest history.maps))

-- the catalog after all scans of a history
abbrev pub catalog : History → List ObjectRow
catalog history = map (λ placed. placed.1) (placed_rows history)

-- the catalog that stands at a number: that of the newest scan whose end is not above it. Before all scans it is the root's row
-- alone
abbrev pub catalog_at : ℕ → List FolderMap → ℕ → List ObjectRow
catalog_at first [] number = catalog (record { first = first; maps = [] })
catalog_at first (library ∷ older) number =
    cond (nat_le (end_of (record { first = first; maps = library ∷ older })) number)
    (catalog (record { first = first; maps = library ∷ older })) (catalog_at first older number)
