-- The events of a history, each with the parent that its change names: what a server has to keep of a span, so that it
-- can tell the containers of the span as well as its events.
use Rattle.std.specs.Prelude.{◌+◌, ◌&&◌, ◌||◌, ℕ, Bool, false, cond, nat_eq, nat_lt, nat_le, List, [], ◌∷◌, ◌++◌, map, filter, length, Option, Some, None}
use Rattle.std.specs.List.{filter_map, range_with_len}
use Rattle.std.specs.Option.{option_map}
use Rattle.cds_object.specs.Path.{parent_of}
use Rattle.cds_object.specs.Events.{is_container, update_of}
use Rattle.cds_object.specs.declared.event.Event.{Event}
use Rattle.cds_object.specs.declared.event.Event.TheVariants.{ObjAdd, ObjDel}
use Rattle.cds_catalog.specs.Library.{FolderMap, found}
use Rattle.cds_catalog.specs.History.{History, latest, changes_of, place_of}
use Rattle.cds_catalog.specs.Catalog.{id_of}
use Rattle.cds_catalog.specs.declared.change.Change.{Change}
use Rattle.cds_changes.specs.declared.event_with_parent.EventWithParent.{EventWithParent}
use Rattle.cds_changes.specs.Events.{event_of, done_events, heads_done, is_in_subtree}

-- the event of a change, with the parent that it names
abbrev pub change_with_parent : ℕ → List Change → Change → List Change → EventWithParent
change_with_parent first scan change older = record {
  event = event_of (first + length (change ∷ older)) older change (is_in_subtree scan change);
  parent = Some (id_of older (parent_of (place_of change)));
}

-- an event that names no parent: that a subtree update is done
abbrev pub without_parent : Event → EventWithParent
without_parent event = record { event = event; parent = None }

-- the events of a change of a scan, as `change_events` has them
abbrev pub change_with_parents : ℕ → List Change → Change → List Change → List EventWithParent
change_with_parents first scan change older =
    change_with_parent first scan change older
    ∷ map without_parent (done_events (first + length (change ∷ older)) (change ∷ older) (heads_done scan change))

-- those of the changes of a scan, the oldest first
abbrev pub scan_with_parents : ℕ → List Change → List Change → List Change → List EventWithParent
scan_with_parents first before scan [] = []
scan_with_parents first before scan (change ∷ earlier) =
    scan_with_parents first before scan earlier ++ change_with_parents first scan change (earlier ++ before)

-- those of a history
abbrev pub all_with_parents : ℕ → List FolderMap → List EventWithParent
all_with_parents first [] = []
all_with_parents first (library ∷ older) =
    all_with_parents first older ++ scan_with_parents first (changes_of older) (found (latest older) library) (found (latest older) library)

-- those of a history whose numbers are above the one up to which a server has forgotten them
abbrev pub is_after : ℕ → EventWithParent → Bool
is_after forgotten item = nat_lt forgotten (update_of item.event)

abbrev pub all_after : History → ℕ → List EventWithParent
all_after history forgotten = filter (is_after forgotten) (all_with_parents history.first history.maps)

-- whether an event lies in the span above one number up to another
abbrev pub lies_in : ℕ → ℕ → Event → Bool
lies_in from to event = nat_lt from (update_of event) && nat_le (update_of event) to

-- the events of a span among these
abbrev pub events_in : ℕ → ℕ → List EventWithParent → List Event
events_in from to items = filter (lies_in from to) (map (λ (n : EventWithParent). n.event) items)

-- whether an event tells that the container of an id was added
abbrev pub adds_id : ℕ → Event → Bool
adds_id id (ObjAdd added update st parent class) = is_container class && nat_eq added id
adds_id id other = false

-- whether a parent is the container of an id
abbrev pub is_parent : ℕ → Option ℕ → Bool
is_parent id None = false
is_parent id (Some parent) = nat_eq parent id

-- whether an event adds a container, or its change names it as parent
abbrev pub touches : ℕ → EventWithParent → Bool
touches id item = adds_id id item.event || is_parent id item.parent

-- whether it deletes the object of an id
abbrev pub deletes : ℕ → Event → Bool
deletes id (ObjDel deleted update st) = nat_eq deleted id
deletes id other = false

-- the number of the last event of a span that touches a container, the oldest event first, after what came before
abbrev pub last_touch_after : ℕ → ℕ → ℕ → Option ℕ → List EventWithParent → Option ℕ
last_touch_after from to id before [] = before
last_touch_after from to id before (item ∷ newer) =
    last_touch_after from to id (cond (lies_in from to item.event && touches id item) (Some (update_of item.event)) before) newer

abbrev pub last_touch_in : ℕ → ℕ → ℕ → List EventWithParent → Option ℕ
last_touch_in from to id items = last_touch_after from to id None items

-- whether an event of a span deletes an object, or one before did
abbrev pub was_deleted_after : ℕ → ℕ → ℕ → Bool → List EventWithParent → Bool
was_deleted_after from to id before [] = before
was_deleted_after from to id before (item ∷ newer) =
    was_deleted_after from to id (lies_in from to item.event && deletes id item.event || before) newer

abbrev pub was_deleted_in : ℕ → ℕ → ℕ → List EventWithParent → Bool
was_deleted_in from to id items = was_deleted_after from to id false items

-- the containers that a span touches and does not delete, each with the last such number, in ascending order of ids, for
-- ids below a number
abbrev pub containers_in : ℕ → ℕ → ℕ → List EventWithParent → List (ℕ × ℕ)
containers_in from to count items =
    filter_map (λ id. cond (was_deleted_in from to id items) None (option_map (λ number. (id, number)) (last_touch_in from to id items)))
    (range_with_len 0 count)
