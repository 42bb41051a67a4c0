-- What a server tells of the changes of a span: one event for each change, and one when a subtree update is done (this project's
-- profile of UPnP ContentDirectory:4 on LastChange).
use Rattle.std.specs.Prelude.{◌+◌, ◌&&◌, ◌||◌, ℕ, Bool, true, false, not, nat_eq, nat_lt, nat_le, List, [], ◌∷◌, ◌++◌, filter, map, length}
use Rattle.std.specs.List.{list_any}
use Rattle.std.specs.Cmp.Lexicographic.{pointwise}
use Rattle.cds_object.specs.Path.{same_path, parent_of}
use Rattle.cds_object.specs.Events.{class_of, update_of}
use Rattle.cds_object.specs.declared.event.Event.{Event}
use Rattle.cds_object.specs.declared.event.Event.TheVariants.{ObjAdd, ObjMod, ObjDel, StDone}
use Rattle.cds_catalog.specs.Library.{FolderMap, found}
use Rattle.cds_catalog.specs.History.{History, latest, changes_of, place_of}
use Rattle.cds_catalog.specs.Catalog.{id_of}
use Rattle.cds_catalog.specs.declared.change.Change.{Change}
use Rattle.cds_catalog.specs.declared.change.Change.TheVariants.{Deletion, Addition, Modification}

-- whether a place lies anywhere below another
abbrev pub is_below : List (List ℕ) → List (List ℕ) → Bool
is_below [] [] = false
is_below [] (name ∷ names) = true
is_below (name ∷ names) [] = false
is_below (name ∷ names) (next ∷ others) = pointwise nat_eq name next && is_below names others

-- whether two changes are both additions or both deletions
abbrev pub is_alike : Change → Change → Bool
is_alike (Deletion path) (Deletion other) = true
is_alike (Addition path content) (Addition other said) = true
is_alike change other = false

-- whether a change adds, or deletes, a folder with at least one object below it in the same scan
abbrev pub gathers : List Change → Change → Bool
gathers scan change = list_any (λ other. is_alike change other && is_below (place_of change) (place_of other)) scan

-- whether it does, and the folder above it is not itself such a folder: then it is the head of a subtree update
abbrev pub heads : List Change → Change → Bool
heads scan change =
    gathers scan change
    && not (list_any (λ other. is_alike change other && gathers scan other && same_path (place_of other) (parent_of (place_of change))) scan)

-- whether a change belongs to the subtree update of a head: it is the head's, or that of an object below it
abbrev pub is_within : Change → Change → Bool
is_within head change =
    is_alike head change && (same_path (place_of head) (place_of change) || is_below (place_of head) (place_of change))

-- whether a change belongs to a subtree update of its scan
abbrev pub is_in_subtree : List Change → Change → Bool
is_in_subtree scan change = list_any (λ head. heads scan head && is_within head change) scan

-- whether a change is the last of a head's subtree update in a scan, whose newest change is the first
abbrev pub is_last_within : List Change → Change → Change → Bool
is_last_within scan head change = is_first (filter (is_within head) scan)
  where
    is_first : List Change → Bool
    is_first [] = false
    is_first (newest ∷ others) = is_within head change && same_path (place_of newest) (place_of change)

-- the heads whose subtree update is done with a change
abbrev pub heads_done : List Change → Change → List Change
heads_done scan change = filter (λ head. heads scan head && is_last_within scan head change) scan

-- the event of a change with its number after the older ones; the last part says whether it belongs to a subtree update
abbrev pub event_of : ℕ → List Change → Change → Bool → Event
event_of number older (Deletion path) st = ObjDel (id_of older path) number st
event_of number older (Addition path content) st =
    ObjAdd (id_of (Addition path content ∷ older) path) number st (id_of older (parent_of path)) (class_of content)
event_of number older (Modification path content) st = ObjMod (id_of older path) number st

-- the events of subtree updates that are done at a number, after these changes
abbrev pub done_events : ℕ → List Change → List Change → List Event
done_events number changes heads = map (λ head. StDone (id_of changes (place_of head)) number) heads

-- the events of a change of a scan, after a first number and the older changes: its own, and those that are done with it
abbrev pub change_events : ℕ → List Change → Change → List Change → List Event
change_events first scan change older =
    event_of (first + length (change ∷ older)) older change (is_in_subtree scan change)
    ∷ done_events (first + length (change ∷ older)) (change ∷ older) (heads_done scan change)

-- the events of the changes of a scan, the oldest first: after a first number and the changes before the scan, for these
-- changes of it, the newest of which is the first
abbrev pub scan_events : ℕ → List Change → List Change → List Change → List Event
scan_events first before scan [] = []
scan_events first before scan (change ∷ earlier) = scan_events first before scan earlier ++ change_events first scan change (earlier ++ before)

-- all events of a history, the oldest first
abbrev pub all_events : ℕ → List FolderMap → List Event
all_events first [] = []
all_events first (library ∷ older) =
    all_events first older ++ scan_events first (changes_of older) (found (latest older) library) (found (latest older) library)

-- the events of the span above one scan end up to another
abbrev pub events_between : History → ℕ → ℕ → List Event
events_between history from to =
    filter (λ event. nat_lt from (update_of event) && nat_le (update_of event) to) (all_events history.first history.maps)
