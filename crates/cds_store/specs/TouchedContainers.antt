-- What is gathered of the containers that a span touches, while its events are read one by one.
use Rattle.std.specs.Prelude.{◌≡◌, ◌≤◌, ℕ, cond, List, Option, Some, None}
use Rattle.cds_object.specs.Events.{update_of}
use Rattle.cds_changes.specs.declared.event_with_parent.EventWithParent.{EventWithParent}
use Rattle.cds_changes.specs.EventsWithParents.{touches, last_touch_in, containers_in}

-- the last number of each container, before an event and after it
abbrev pub TakesTouch : (ℕ → Option ℕ) → (ℕ → Option ℕ) → EventWithParent → Type 0
TakesTouch before now item = (id : ℕ) → now id ≡ cond (touches id item) (Some (update_of item.event)) (before id)

-- the containers of a span among these events, if none of the events of the span touches an id from some number on
abbrev pub AreContainersOf : ℕ → ℕ → List EventWithParent → List (ℕ × ℕ) → Type 0
AreContainersOf from to kept containers =
    (count : ℕ) → ((id : ℕ) → count ≤ id → last_touch_in from to id kept ≡ None) → containers ≡ containers_in from to count kept
