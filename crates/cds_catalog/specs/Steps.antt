-- The catalog read step by step: what one change does to the rows that stand. A law says that these steps lead to the catalog
-- counted afresh (Laws); nothing is defined by them.
use Rattle.std.specs.Prelude.{◌+◌, ◌-◌, ℕ, cond, not, List, [], ◌∷◌, ◌++◌, map, filter, Option, Some, None}
use Rattle.std.specs.List.{count_by}
use Rattle.std.specs.Option.{option_map}
use Rattle.cds_object.specs.Path.{same_path, parent_of}
use Rattle.cds_object.specs.Object.{ObjectRow}
use Rattle.cds_object.specs.declared.content.Content.{Content}
use Rattle.cds_object.specs.declared.content.Content.TheVariants.{Folder, Track}
use Rattle.cds_object.specs.declared.row.Trackers.{Trackers}
use Rattle.cds_catalog.specs.History.{History, changes_of, end_of, is_addition}
use Rattle.cds_catalog.specs.Catalog.{PlacedRow, placed_rows}
use Rattle.cds_catalog.specs.declared.change.Change.{Change}
use Rattle.cds_catalog.specs.declared.change.Change.TheVariants.{Deletion, Addition, Modification}

-- what stands: the number of the newest change, how many ids were drawn, and the rows with their places in ascending
-- order of ids
pub record Standing : Type 0 where
  pub number : ℕ
  pub drawn : ℕ
  pub rows : List PlacedRow

-- what stands after all scans of a history, counted afresh
abbrev pub standing_of : History → Standing
standing_of history = record {
  number = end_of history;
  drawn = count_by is_addition (changes_of history.maps);
  rows = placed_rows history;
}

-- the row at a place changed, and every other row kept
abbrev pub touched : List (List ℕ) → (ObjectRow → ObjectRow) → PlacedRow → PlacedRow
touched path change placed = cond (same_path path placed.0) (placed.0, change placed.1) placed

abbrev pub touch : List (List ℕ) → (ObjectRow → ObjectRow) → List PlacedRow → List PlacedRow
touch path change rows = map (touched path change) rows

-- the id of the row at a place; 0 if no row is there
abbrev pub id_at : List (List ℕ) → List PlacedRow → ℕ
id_at path [] = 0
id_at path (placed ∷ others) = cond (same_path path placed.0) placed.1.id (id_at path others)

-- a parent's row at a number of a change under it, with its children and deleted ones counted anew
abbrev pub child_added : ℕ → ObjectRow → ObjectRow
child_added number row =
    record row { trackers = option_map (λ (t : Trackers). record t { container_update = number; child_count = t.child_count + 1 }) row.trackers }

abbrev pub child_modified : ℕ → ObjectRow → ObjectRow
child_modified number row = record row { trackers = option_map (λ (t : Trackers). record t { container_update = number }) row.trackers }

abbrev pub child_deleted : ℕ → ObjectRow → ObjectRow
child_deleted number row =
    record row { trackers = option_map (λ (t : Trackers). record t { container_update = number; child_count = t.child_count - 1; deleted = t.deleted + 1 }) row.trackers }

-- a row whose object says something else from a number on
abbrev pub modified : ℕ → Content → ObjectRow → ObjectRow
modified number content row = record row { content = content; object_update = number }

-- the trackers of a folder that was just added; a track has none
abbrev pub new_trackers : ℕ → Content → Option Trackers
new_trackers number (Folder title) = Some (record { container_update = number; child_count = 0; deleted = 0 })
new_trackers number (Track track) = None

-- the row of what was just added under the parent of that id
abbrev pub new_row : ℕ → ℕ → ℕ → Content → ObjectRow
new_row id parent number content = record {
  id = id;
  parent = Some parent;
  content = content;
  object_update = number;
  trackers = new_trackers number content;
}

-- what stands after one more change
abbrev pub step : Standing → Change → Standing
step s (Deletion path) = record {
  number = s.number + 1;
  drawn = s.drawn;
  rows = touch (parent_of path) (child_deleted (s.number + 1)) (filter (λ placed. not (same_path path placed.0)) s.rows);
}
step s (Addition path content) = record {
  number = s.number + 1;
  drawn = s.drawn + 1;
  rows = touch (parent_of path) (child_added (s.number + 1)) s.rows
      ++ (path, new_row (s.drawn + 1) (id_at (parent_of path) s.rows) (s.number + 1) content) ∷ [];
}
step s (Modification path content) = record {
  number = s.number + 1;
  drawn = s.drawn;
  rows = touch (parent_of path) (child_modified (s.number + 1)) (touch path (modified (s.number + 1) content) s.rows);
}

-- what stands after changes, the newest of which is the first in the list
abbrev pub stepped : Standing → List Change → Standing
stepped s [] = s
stepped s (change ∷ older) = step (stepped s older) change
