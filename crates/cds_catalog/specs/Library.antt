-- What a scan found, as a folder map: each place that something stands at, with what stands there (this project's
-- profile).
use Rattle.std.specs.Prelude.{ℕ, cond, List, [], ◌∷◌, ◌++◌, reverse, Option, Some, None}
use Rattle.std.specs.List.{filter_map}
use Rattle.std.specs.Map.{lookup}
use Rattle.std.specs.BTreeMap.{insert_entry, is_at}
use Rattle.cds_object.specs.Path.{path_cmp}
use Rattle.cds_object.specs.Content.{same_content, same_kind}
use Rattle.cds_object.specs.declared.content.Content.{Content}
use Rattle.cds_object.specs.declared.record.Record.{Record}
use Rattle.cds_catalog.specs.declared.change.Change.{Change}
use Rattle.cds_catalog.specs.declared.change.Change.TheVariants.{Deletion, Addition, Modification}

-- a folder map: the places in ascending order, each with what stands there; the root is not in it
abbrev pub FolderMap : Type 0
FolderMap = List (List (List ℕ) × Content)

-- what stands at a place
abbrev pub content_at : FolderMap → List (List ℕ) → Option Content
content_at library path = lookup (is_at (path_cmp path)) library

-- the folder map of what a scan found; of two records of one place the later one counts
abbrev pub map_from : FolderMap → List Record → FolderMap
map_from library [] = library
map_from library (record_ ∷ records) = map_from (insert_entry path_cmp library record_.path record_.content) records

abbrev pub map_of : List Record → FolderMap
map_of records = map_from [] records

-- the deletion of what stood at a place, if nothing stands there now, or something of the other kind
abbrev pub gone : List (List ℕ) → Content → Option Content → Option Change
gone path before None = Some (Deletion path)
gone path before (Some now) = cond (same_kind before now) None (Some (Deletion path))

abbrev pub departure : FolderMap → (List (List ℕ) × Content) → Option Change
departure new entry = gone entry.0 entry.1 (content_at new entry.0)

-- the addition of what stands at a place, if nothing stood there, or something of the other kind; or its modification, if
-- something of its kind stood there and said something else
abbrev pub come : List (List ℕ) → Content → Option Content → Option Change
come path content None = Some (Addition path content)
come path content (Some before) =
    cond (same_kind before content)
    (cond (same_content before content) None (Some (Modification path content)))
    (Some (Addition path content))

abbrev pub arrival : FolderMap → (List (List ℕ) × Content) → Option Change
arrival old entry = come entry.0 entry.1 (content_at old entry.0)

-- the changes from one folder map to the next, the newest first. The deletions came before all others, in descending order of
-- places; then came the additions and modifications, in ascending order
abbrev pub found : FolderMap → FolderMap → List Change
found old new = reverse (filter_map (arrival old) new) ++ filter_map (departure new) old
