-- The events of the changes of a scan, by the rows that stand before each.
use Rattle.std.specs.Prelude.{◌+◌, ℕ, Bool, List, [], ◌∷◌, ◌++◌, map, Option, Some, None}
use Rattle.cds_object.specs.Path.{parent_of}
use Rattle.cds_object.specs.declared.event.Event.{Event}
use Rattle.cds_object.specs.declared.event.Event.TheVariants.{ObjAdd, ObjMod, ObjDel, StDone}
use Rattle.cds_catalog.specs.History.{place_of}
use Rattle.cds_catalog.specs.Steps.{Standing, id_at, stepped}
use Rattle.cds_catalog.specs.declared.change.Change.{Change}
use Rattle.cds_catalog.specs.declared.change.Change.TheVariants.{Deletion, Addition, Modification}
use Rattle.cds_changes.specs.declared.event_with_parent.EventWithParent.{EventWithParent}
use Rattle.cds_store.specs.declared.subtrees.MarkedChange.{MarkedChange}
use Rattle.cds_object.specs.Events.{class_of}

-- the changes of a plan
abbrev pub changes_in : List MarkedChange → List Change
changes_in plan = map (λ (p : MarkedChange). p.change) plan

-- the event of a change by its number, the next id that is drawn, and the ids of its object and of its parent
abbrev pub event_with : ℕ → ℕ → ℕ → ℕ → Change → Bool → Event
event_with number next own parent (Deletion path) st = ObjDel own number st
event_with number next own parent (Addition path content) st = ObjAdd next number st parent (class_of content)
event_with number next own parent (Modification path content) st = ObjMod own number st

-- the event of a change that comes next
abbrev pub event_by : Standing → Change → Bool → Event
event_by s (Deletion path) st = ObjDel (id_at path s.rows) (s.number + 1) st
event_by s (Addition path content) st = ObjAdd (s.drawn + 1) (s.number + 1) st (id_at (parent_of path) s.rows) (class_of content)
event_by s (Modification path content) st = ObjMod (id_at path s.rows) (s.number + 1) st

-- the event that the subtree update of a head is done with a change
abbrev pub done_by : Standing → Option (List (List ℕ)) → List EventWithParent
done_by s None = []
done_by s (Some head) = record { event = StDone (id_at head s.rows) (s.number + 1); parent = None } ∷ []

-- the events of a change that comes next
abbrev pub events_by : Standing → MarkedChange → List EventWithParent
events_by s p = record { event = event_by s p.change p.st; parent = Some (id_at (parent_of (place_of p.change)) s.rows) } ∷ done_by s p.done

-- the same by the ids of places, from a number and the ids drawn
abbrev pub done_with : (List (List ℕ) → ℕ) → ℕ → Option (List (List ℕ)) → List EventWithParent
done_with ids number None = []
done_with ids number (Some head) = record { event = StDone (ids head) (number + 1); parent = None } ∷ []

abbrev pub events_with : (List (List ℕ) → ℕ) → ℕ → ℕ → MarkedChange → List EventWithParent
events_with ids number drawn p =
    record {
      event = event_with (number + 1) (drawn + 1) (ids (place_of p.change)) (ids (parent_of (place_of p.change))) p.change p.st;
      parent = Some (ids (parent_of (place_of p.change)));
    } ∷ done_with ids number p.done

-- the events of changes that come one after the other, in a list with the newest first
abbrev pub all_events_by : Standing → List MarkedChange → List EventWithParent
all_events_by s [] = []
all_events_by s (p ∷ older) = all_events_by s older ++ events_by (stepped s (changes_in older)) p
