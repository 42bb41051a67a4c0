-- Laws of spans: every change is told once, by its number; spans join; later scans change nothing of them; and the
-- events with their parents tell them.
use Rattle.std.specs.Prelude.{◌≡◌, ◌+◌, ◌≤◌, ℕ, List, ◌++◌, map, filter, length}
use Rattle.std.specs.List.{range_with_len}
use Rattle.cds_catalog.specs.Library.{FolderMap}
use Rattle.cds_catalog.specs.History.{History, changes_of, end_of}
use Rattle.cds_changes.specs.Events.{all_events, events_between}
use Rattle.cds_changes.specs.Containers.{last_touch, was_deleted, changes_to}
use Rattle.cds_changes.specs.EventsWithParents.{all_with_parents, last_touch_in, was_deleted_in}
use Rattle.cds_changes.specs.declared.event_with_parent.EventWithParent.{EventWithParent}
use Rattle.cds_object.specs.Events.{update_of, is_change}

-- all events of a history tell its changes, each once and in order: their numbers are those from the one after the first
-- number on
abbrev pub every_change_is_told : Type 0
every_change_is_told = (first : ℕ) (maps : List FolderMap) →
    map update_of (filter is_change (all_events first maps)) ≡ range_with_len (first + 1) (length (changes_of maps))

-- the events of a span tell exactly the changes above its beginning, up to its end
abbrev pub spans_tell_their_changes : Type 0
spans_tell_their_changes = (history : History) (from more : ℕ) → history.first ≤ from → from + more ≤ end_of history →
    map update_of (filter is_change (events_between history from (from + more))) ≡ range_with_len (from + 1) more

-- two spans, one after the other, are one
abbrev pub spans_join : Type 0
spans_join = (history : History) (from middle to : ℕ) → from ≤ middle → middle ≤ to →
    events_between history from to ≡ events_between history from middle ++ events_between history middle to

-- what a server tells of a span does not depend on scans after it
abbrev pub spans_stay : Type 0
spans_stay = (first : ℕ) (newer older : List FolderMap) (from to : ℕ) → to ≤ end_of (record { first = first; maps = older }) →
    events_between (record { first = first; maps = newer ++ older }) from to ≡ events_between (record { first = first; maps = older }) from to

-- the events of a history with their parents are its events
abbrev pub with_parents_are_events : Type 0
with_parents_are_events = (first : ℕ) (maps : List FolderMap) → map (λ (n : EventWithParent). n.event) (all_with_parents first maps) ≡ all_events first maps

-- the events of a history with their parents tell this of each id: the last number in a span that touched its container, and
-- whether the span deleted its object
abbrev pub with_parents_tell_containers : Type 0
with_parents_tell_containers = (history : History) (from to id : ℕ) →
    (last_touch_in from to id (all_with_parents history.first history.maps) ≡ last_touch history.first from id (changes_to history.first to (changes_of history.maps)))
    × (was_deleted_in from to id (all_with_parents history.first history.maps) ≡ was_deleted history.first from id (changes_to history.first to (changes_of history.maps)))
