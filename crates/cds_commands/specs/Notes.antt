-- The notes that a server sends: one at each grant, and one of each release to each subscription that lives then (UPnP Device
-- Architecture 2.0 on event messages and keys).
use Rattle.std.specs.Prelude.{◌+◌, ◌-◌, ◌&&◌, ℕ, Bool, cond, nat_eq, nat_lt, List, [], ◌∷◌, ◌++◌, map, filter, length, Option, Some, None}
use Rattle.std.specs.List.{filter_map, range_with_len}
use Rattle.cds_object.specs.declared.event.Event.{Event}
use Rattle.cds_catalog.specs.History.{History, end_of}
use Rattle.cds_changes.specs.Events.{events_between}
use Rattle.cds_commands.specs.Commands.{Command, Grants, Ticks, scans_of}
use Rattle.cds_commands.specs.Releases.{Release, release_at, releases_of}
use Rattle.cds_commands.specs.Subscriptions.{granted, is_alive, subscription_limit}
use Rattle.cds_object.specs.Events.{is_change, update_of}

-- a note: the name of its subscription, its place among those of its subscription, its SystemUpdateID and its events. The place
-- determines its SEQ on the wire
pub record Note : Type 0 where
  pub name : ℕ
  pub place : ℕ
  pub number : ℕ
  pub events : List Event

-- the notes of a name, in the order in which they were sent
abbrev pub sent_to : ℕ → List Note → List Note
sent_to name notes = filter (λ (note : Note). nat_eq note.name name) notes

-- the place of the next note of a subscription: it counts the notes that were sent to it
abbrev pub next_place_of : ℕ → List Note → ℕ
next_place_of name sent = length (filter (λ (note : Note). nat_eq note.name name) sent)

-- the names of the subscriptions that live at a moment, in the order of their making
abbrev pub alive_names : ℕ → List Command → List ℕ
alive_names now commands = filter (λ name. is_alive name now commands) (range_with_len 1 (granted commands))

-- whether there is room for one more subscription
abbrev pub has_room : ℕ → List Command → Bool
has_room now commands = nat_lt (length (alive_names now commands)) subscription_limit

-- the note of a release to one of the subscriptions that live
abbrev pub released_note : History → Release → List Note → ℕ → Note
released_note history release sent name = record {
  name = name;
  place = next_place_of name sent;
  number = release.to;
  events = events_between history release.from release.to;
}

abbrev pub released_notes : History → Option Release → List Note → List ℕ → List Note
released_notes history None sent names = []
released_notes history (Some release) sent names = map (released_note history release sent) names

-- the first note of a subscription has the current number and no changes
abbrev pub first_note : ℕ → ℕ → Note
first_note name number = record { name = name; place = 0; number = number; events = [] }

-- the notes that a command sends, after the older ones
abbrev pub sent_by : ℕ → List Command → List Note → Command → List Note
sent_by first older sent (Grants moment callback seconds) = first_note (granted older + 1) (end_of (scans_of first older)) ∷ []
sent_by first older sent (Ticks moment) =
    released_notes (scans_of first older) (release_at moment (scans_of first older) (releases_of first older)) sent
    (alive_names moment older)
sent_by first older sent command = []

-- all notes that were sent, the oldest first
abbrev pub notes_of : ℕ → List Command → List Note
notes_of first [] = []
notes_of first (command ∷ older) = notes_of first older ++ sent_by first older (notes_of first older) command

-- the events of notes, one note after the other
abbrev pub events_of : List Note → List Event
events_of [] = []
events_of (note ∷ notes) = note.events ++ events_of notes

-- the note of a place among notes. If several have it, it is the last in the list, which is the one that came first if the newest
-- is the first
abbrev pub note_of : ℕ → List Note → Option Note
note_of place [] = None
note_of place (note ∷ older) = or_this (note_of place older)
  where
    or_this : Option Note → Option Note
    or_this None = cond (nat_eq note.place place) (Some note) None
    or_this (Some first) = Some first

-- the notes of the places from one up to and without another, in ascending order
abbrev pub notes_from_to : ℕ → ℕ → List Note → List Note
notes_from_to from to notes = filter_map (λ place. note_of place notes) (range_with_len from (to - from))

-- the changes among events that are above a number
abbrev pub changes_above : ℕ → List Event → List Event
changes_above number events = filter (λ event. is_change event && nat_lt number (update_of event)) events

-- the changes that a server tells above one number up to another
abbrev pub told_between : ℕ → List Command → ℕ → ℕ → List Event
told_between first commands from to = filter is_change (events_between (scans_of first commands) from to)
