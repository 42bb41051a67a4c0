-- What the parts of the store do to rows with their places. Their contracts share these words.
use Rattle.std.specs.Prelude.{◌≡◌, ◌+◌, ◌-◌, ◌<◌, ◌^◌, ℕ, true, cond, List, [], ◌∷◌, ◌++◌, map, take, drop, MatchOption}
use Rattle.std.specs.List.{AllByRecursion}
use Rattle.std.specs.BTreeMap.{insert_entry}
use Rattle.cds_object.specs.Path.{path_cmp, same_path}
use Rattle.cds_object.specs.Object.{ObjectRow, is_folder}
use Rattle.cds_object.specs.Tree.{children_of}
use Rattle.cds_object.specs.declared.content.Content.{Content}
use Rattle.cds_object.specs.declared.row.Trackers.{Trackers}
use Rattle.cds_catalog.specs.Library.{FolderMap}
use Rattle.cds_catalog.specs.Catalog.{PlacedRow}
use Rattle.cds_catalog.specs.Steps.{Standing, child_added, child_modified, child_deleted}
use Rattle.cds_catalog.specs.declared.change.Change.{Change}
use Rattle.cds_catalog.specs.declared.change.Change.TheVariants.{Deletion, Addition, Modification}
use Rattle.cds_store.specs.declared.touch.ChildEvent.{ChildEvent}
use Rattle.cds_store.specs.declared.touch.ChildEvent.TheVariants.{Added, Modified, Deleted}

-- the rows without their places
abbrev pub rows_of : List PlacedRow → List ObjectRow
rows_of rows = map (λ placed. placed.1) rows

-- at most `count` ids of the children of an object from a place on, counted from 0, added to others
abbrev pub AddsPage : ℕ → ℕ → ℕ → List ObjectRow → List ℕ → List ℕ → Type 0
AddsPage id start count rows out now = now ≡ out ++ map (λ (r : ObjectRow). r.id) (take count (drop start (children_of id rows)))

-- what the rows say of the library, put into a folder map one by one; the root is in no map
abbrev pub put_place : FolderMap → PlacedRow → FolderMap
put_place library placed = cond (same_path placed.0 []) library (insert_entry path_cmp library placed.0 placed.1.content)

abbrev pub put_places : FolderMap → List PlacedRow → FolderMap
put_places library [] = library
put_places library (placed ∷ others) = put_places (put_place library placed) others

-- the row of a parent after an event of a child, by the change with this number
abbrev pub child_event : ChildEvent → ℕ → ObjectRow → ObjectRow
child_event Added number row = child_added number row
child_event Modified number row = child_modified number row
child_event Deleted number row = child_deleted number row

-- what such an event does to the trackers
abbrev pub tracked_event : ChildEvent → ℕ → Trackers → Trackers
tracked_event Added number t = record t { container_update = number; child_count = t.child_count + 1 }
tracked_event Modified number t = record t { container_update = number }
tracked_event Deleted number t = record t { container_update = number; child_count = t.child_count - 1; deleted = t.deleted + 1 }

-- whether the counts of a row can rise by one
abbrev pub HasRoom : ObjectRow → Type 0
HasRoom row = MatchOption row.trackers (Unit {0}) (λ t. (t.child_count + 1 < 2 ^ 32) × (t.deleted + 1 < 2 ^ 32))

-- whether a row that stands at a place is of the kind of a content
abbrev pub KeepsKind : List (List ℕ) → Content → PlacedRow → Type 0
KeepsKind path content placed = same_path path placed.0 ≡ true → is_folder placed.1.content ≡ is_folder content

-- whether the object at the place of a change is of the kind that a modification gives it
abbrev pub KeepsKinds : Change → List PlacedRow → Type 0
KeepsKinds (Deletion path) rows = Unit {0}
KeepsKinds (Addition path content) rows = Unit {0}
KeepsKinds (Modification path content) rows = AllByRecursion (KeepsKind path content) rows

-- whether a change can be made: the numbers that it raises stay below 2^32, and kinds stay
pub record CanMake (s : Standing) (change : Change) : Type 0 where
  pub number : s.number + 1 < 2 ^ 32
  pub drawn : s.drawn + 1 < 2 ^ 32
  pub room : AllByRecursion (λ (placed : PlacedRow). HasRoom placed.1) s.rows
  pub kinds : KeepsKinds change s.rows
