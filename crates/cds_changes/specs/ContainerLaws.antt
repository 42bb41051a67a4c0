-- What ContainerUpdateIDs tells of a span, by the catalog at its end (UPnP ContentDirectory:4 on ContainerUpdateIDs).
use Rattle.std.specs.Prelude.{◌≡◌, ◌≤◌, ℕ, cond, nat_lt, List, ◌++◌, Option, Some, None}
use Rattle.std.specs.List.{filter_map}
use Rattle.std.specs.Option.{option_and_then}
use Rattle.cds_object.specs.Object.{ObjectRow}
use Rattle.cds_object.specs.declared.row.Trackers.{Trackers}
use Rattle.cds_catalog.specs.Library.{FolderMap}
use Rattle.cds_catalog.specs.History.{end_of}
use Rattle.cds_catalog.specs.Catalog.{catalog}
use Rattle.cds_catalog.specs.Laws.{AreLibraries}
use Rattle.cds_changes.specs.Containers.{containers_between}

-- a container whose containerUpdateID is above a number, with it
abbrev pub changed_container : ℕ → ObjectRow → Option (ℕ × ℕ)
changed_container from row =
    option_and_then (λ (t : Trackers). cond (nat_lt from t.container_update) (Some (row.id, t.container_update)) None) row.trackers

-- the containers of a span are those that stand at its end and whose containerUpdateID is above its beginning. Each comes with
-- that number, whatever was scanned later
abbrev pub containers_have_their_numbers : Type 0
containers_have_their_numbers = (first : ℕ) (newer older : List FolderMap) (from : ℕ) → AreLibraries (newer ++ older) → first ≤ from →
    containers_between (record { first = first; maps = newer ++ older }) from (end_of (record { first = first; maps = older }))
    ≡ filter_map (changed_container from) (catalog (record { first = first; maps = older }))
