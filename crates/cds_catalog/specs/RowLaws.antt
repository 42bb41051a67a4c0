-- What holds of the rows of a catalog besides that they are a tree. Each place has its own row, and an id names one place for the
-- whole history. Every number lies between the first and the newest (UPnP ContentDirectory:4 on object ids and on the tracking of
-- changes).
use Rattle.std.specs.Prelude.{◌≡◌, ◌+◌, ◌≤◌, ℕ, List, [], ◌∷◌, ◌++◌, filter, map, Option, Some, MatchOption}
use Rattle.std.specs.List.{AllByRecursion}
use Rattle.std.specs.Option.{option_to_list}
use Rattle.cds_object.specs.Path.{same_path}
use Rattle.cds_object.specs.Object.{ObjectRow}
use Rattle.cds_object.specs.declared.content.Content.{Content}
use Rattle.cds_catalog.specs.Library.{FolderMap, content_at}
use Rattle.cds_catalog.specs.History.{History, latest, end_of}
use Rattle.cds_catalog.specs.Catalog.{PlacedRow, root_entry, placed_rows, catalog}
use Rattle.cds_catalog.specs.Laws.{AreLibraries}
use Rattle.cds_catalog.specs.Steps.{standing_of}

-- what stands at a place of a library, the root's own with it
abbrev pub standing_at : FolderMap → List (List ℕ) → Option Content
standing_at library [] = Some root_entry.1
standing_at library (name ∷ names) = content_at library (name ∷ names)

-- what the rows at a place say
abbrev pub said_at : List (List ℕ) → List PlacedRow → List Content
said_at path rows = map (λ (placed : PlacedRow). placed.1.content) (filter (λ placed. same_path path placed.0) rows)

-- each place of the newest folder map, and the root's, has exactly one row, which says what stands there; no other place has a
-- row
abbrev pub places_have_their_rows : Type 0
places_have_their_rows = (history : History) → AreLibraries history.maps → (path : List (List ℕ)) →
    said_at path (placed_rows history) ≡ option_to_list (standing_at (latest history.maps) path)

-- two rows with one id stand at one place, also if other scans lie between them
abbrev pub HaveOnePlace : PlacedRow → PlacedRow → Type 0
HaveOnePlace now before = now.1.id ≡ before.1.id → now.0 ≡ before.0

abbrev pub ids_name_one_place : Type 0
ids_name_one_place = (first : ℕ) (newer older : List FolderMap) → AreLibraries (newer ++ older) →
    AllByRecursion (λ now. AllByRecursion (HaveOnePlace now) (placed_rows (record { first = first; maps = older })))
    (placed_rows (record { first = first; maps = newer ++ older }))

-- the numbers of a row lie from the first number to the newest one
pub record LiesBetween (first newest : ℕ) (row : ObjectRow) : Type 0 where
  pub above : first ≤ row.object_update
  pub below : row.object_update ≤ newest
  pub tracked : MatchOption row.trackers (Unit {0}) (λ t. (first ≤ t.container_update) × (t.container_update ≤ newest))

-- the ids drawn, with the deletions that a container counts, are at most as many as the numbers given
abbrev pub CountsWithin : History → ObjectRow → Type 0
CountsWithin history row = MatchOption row.trackers (Unit {0}) (λ t. history.first + ((standing_of history).drawn + t.deleted) ≤ end_of history)

abbrev pub numbers_lie_between : Type 0
numbers_lie_between = (history : History) → AreLibraries history.maps →
    AllByRecursion (LiesBetween history.first (end_of history)) (catalog history)
    × AllByRecursion (CountsWithin history) (catalog history)
    × (history.first + (standing_of history).drawn ≤ end_of history)
