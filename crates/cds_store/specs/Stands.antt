-- What a store stands for: the rows that are counted afresh over a history of scans, and the changes that it keeps.
use Rattle.std.specs.Prelude.{◌≡◌, ◌≤◌, ◌<◌, ◌^◌, ℕ, List, [], ◌++◌, length}
use Rattle.cds_catalog.specs.Library.{FolderMap, found}
use Rattle.cds_catalog.specs.History.{History, latest, end_of, with_scan}
use Rattle.cds_catalog.specs.Laws.{IsLibrary, AreLibraries}
use Rattle.cds_catalog.specs.Steps.{Standing, standing_of}
use Rattle.cds_catalog.specs.declared.change.Change.{Change}
use Rattle.cds_object.specs.declared.event.Event.{Event}
use Rattle.cds_changes.specs.Events.{events_between}
use Rattle.cds_changes.specs.Containers.{containers_between}
use Rattle.cds_changes.specs.EventsWithParents.{all_after}
use Rattle.cds_changes.specs.declared.event_with_parent.EventWithParent.{EventWithParent}
use Rattle.cds_store.specs.declared.span.Span.{Span}

-- a store: what stands, the number up to which changes are forgotten, and the events of the changes above it, each with
-- the parent that its change names
pub record Stored : Type 0 where
  pub standing : Standing
  pub forgotten : ℕ
  pub kept : List EventWithParent

-- whether what stands is the catalog of a history
abbrev pub IsCatalogOf : Standing → History → Type 0
IsCatalogOf standing history = AreLibraries history.maps × (standing ≡ standing_of history)

-- whether it is the catalog of some history
pub record IsCatalog (standing : Standing) : Type 0 where
  pub history : History
  pub stands : IsCatalogOf standing history

-- whether a store stands for a history: its rows and its numbers are those of the catalog after all scans; it has
-- forgotten nothing that is still to come, and keeps every change that it has not forgotten
abbrev pub StandsFor : Stored → History → Type 0
StandsFor store history =
    AreLibraries history.maps × (store.standing ≡ standing_of history)
    × (store.forgotten ≤ end_of history) × (store.kept ≡ all_after history store.forgotten)

-- what every store keeps: it stands for a history, and has at most 65,536 rows, the root's with them
pub record IsStore (store : Stored) : Type 0 where
  pub history : History
  pub stands : StandsFor store history
  pub few : length store.standing.rows ≤ 65536

-- the history before any scan, and what stands then
abbrev pub no_scans : ℕ → History
no_scans first = record { first = first; maps = [] }

abbrev pub beginning : ℕ → Standing
beginning first = standing_of (no_scans first)

-- whether changes, the newest first, are the changes of one more scan after the history that a standing stands for;
-- their numbers stay below 2^32
pub record IsScan (s : Standing) (changes : List Change) : Type 0 where
  pub history : History
  pub library : FolderMap
  pub stands : IsCatalogOf s history
  pub is_library : IsLibrary library
  pub made : changes ≡ found (latest history.maps) library
  pub fits : end_of (with_scan history library) < 2 ^ 32

-- the events of a span, added to others
abbrev pub AddsChanges : Stored → Span → List Event → List Event → Type 0
AddsChanges store span out now = (history : History) → StandsFor store history → now ≡ out ++ events_between history span.from span.to

-- the containers of a span, added to others
abbrev pub AddsContainers : Stored → Span → List (ℕ × ℕ) → List (ℕ × ℕ) → Type 0
AddsContainers store span out now = (history : History) → StandsFor store history → now ≡ out ++ containers_between history span.from span.to
