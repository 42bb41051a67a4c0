-- What a replica knows after its turns: the load or the copy, the changes of the notes that it took, and what it asks and says
-- (this project's profile).
use Rattle.std.specs.Prelude.{◌+◌, ◌&&◌, ◌||◌, ℕ, Bool, true, false, cond, not, nat_eq, nat_lt, max, List, [], ◌∷◌, ◌++◌, map, reverse, Option, Some, None}
use Rattle.std.specs.List.{filter_map}
use Rattle.std.specs.Option.{option_map}
use Rattle.cds_object.specs.Object.{ObjectRow, is_folder}
use Rattle.cds_object.specs.declared.event.Event.{Event}
use Rattle.cds_commands.specs.Notes.{Note, changes_above}
use Rattle.cds_follow.specs.Inbox.{ReplicaTurn, Begins, Shows, Requests, Accepts, Refuses, Delivers, Arrival, IsUnknown, IsRepeat, IsTooMany, IsEarly, IsHeld, IsNext, arrival, missing, taken_by}
use Rattle.cds_follow.specs.Copy.{KnownRow, Happening, Changes, Reads, rows_after, shown_row, known_of, cannot_be, changed, least_unread, read_up_to}
use Rattle.cds_load.specs.Outcome.{Outcome, Goes, CannotBeRead, Jumps, Tears, outcome_map, outcome_then, after_outcome, is_no}
use Rattle.cds_load.specs.Stages.{Held, Idle, Loads, HasCopy, Begun, stage_taken, stage_ask}
use Rattle.cds_load.specs.declared.exchange.Ask.{Ask}
use Rattle.cds_load.specs.declared.exchange.Ask.TheVariants.{Metadata}
use Rattle.cds_follow.specs.declared.says.Says.{Says}
use Rattle.cds_follow.specs.declared.says.Says.TheVariants.{Gap, BehindLoad, BehindRead, BehindVersion, Stands}
use Rattle.cds_load.specs.declared.exchange.Shown.{Shown}
use Rattle.cds_load.specs.declared.exchange.Shown.TheVariants.{Text, Number, Page, Fault}
use Rattle.cds_object.specs.Events.{update_of, object_of}

-- what a replica knows besides its notes: the load, or the copy that it ended with; the number of the last load that ended; the
-- greatest number of a note that was taken; the changes of notes that were taken since the load began; and, since it ended, what
-- befell the copy, the newest first
pub record Known : Type 0 where
  pub held : Held
  pub base : ℕ
  pub last_note : ℕ
  pub kept : List Event
  pub happenings : List Happening

-- the position: the greatest of the number that the last ended load read and the numbers of all notes that were taken
abbrev pub position : Known → ℕ
position known = max known.base known.last_note

-- the first change that cannot be, one by one on the rows of a copy, by its object
abbrev pub first_torn : List KnownRow → List Event → Option ℕ
first_torn rows [] = None
first_torn rows (event ∷ events) = cond (cannot_be rows event) (Some (object_of event)) (first_torn (changed rows event) events)

-- what becomes of the changes above a position, all of them counted on a copy's rows
abbrev pub judged : Known → List Event → Option ℕ → Outcome Known
judged known events (Some id) = Tears id
judged known events None = Goes (record known { happenings = reverse (map Changes events) ++ known.happenings })

abbrev pub counted_from : List ObjectRow → Known → ℕ → List Event → Outcome Known
counted_from rows known at [] = Goes known
counted_from rows known at (event ∷ events) =
    cond (nat_eq (update_of event) (at + 1))
    (judged known (event ∷ events) (first_torn (rows_after rows known.happenings) (event ∷ events)))
    (Jumps (at + 1) (update_of event))

-- what becomes of changes that are above the position: they are counted on the copy, or kept while a load runs
abbrev pub with_changes : Held → Known → ℕ → List Event → Outcome Known
with_changes Idle known at events = Goes known
with_changes (Loads stage) known at events = Goes (record known { kept = known.kept ++ events })
with_changes (HasCopy number rows) known at events = counted_from rows known at events

-- a load begins: the copy is dropped, and no change is kept for it yet
abbrev pub load_begun : Known → Known
load_begun known = record known { held = Loads Begun; kept = []; happenings = [] }

-- the changes that are new in notes which are taken one after the other: each is above the position before its note
abbrev pub new_changes : ℕ → List Note → List Event
new_changes at [] = []
new_changes at (note ∷ notes) = changes_above at note.events ++ new_changes (max at note.number) notes

-- the greatest of a number and those of notes
abbrev pub greatest_of : ℕ → List Note → ℕ
greatest_of number [] = number
greatest_of number (note ∷ notes) = greatest_of (max number note.number) notes

-- a first note above the position drops the copy and begins a load. It is the first of the notes that are taken with it
abbrev pub is_drop : ℕ → List Note → Bool
is_drop at [] = false
is_drop at (note ∷ notes) = nat_eq note.place 0 && nat_lt at note.number

abbrev pub dropped : List Note → Known → Known
dropped notes known = cond (is_drop (position known) notes) (load_begun known) known

-- what is known after notes were taken: the position is at least each of their numbers
abbrev pub heard_of : List Note → Outcome Known → Outcome Known
heard_of notes = outcome_map (λ (known : Known). record known { last_note = greatest_of known.last_note notes })

-- what becomes of notes that are to be taken, in ascending order of places
abbrev pub with_notes : List Note → Known → Outcome Known
with_notes notes known =
    heard_of notes (with_changes (dropped notes known).held (dropped notes known) (position known) (new_changes (position known) notes))

-- what is known when a load ends with the number that it read and its rows. The changes above that number which notes told
-- meanwhile are counted on them
abbrev pub load_ended : Known → ℕ → List ObjectRow → Outcome Known
load_ended known number rows =
    counted_from rows (record { held = HasCopy number rows; base = number; last_note = known.last_note; kept = []; happenings = [] }) number
    (changes_above number known.kept)

-- what becomes of what a reply leaves held
abbrev pub with_held : Known → Held → Outcome Known
with_held known Idle = Goes (record known { held = Idle })
with_held known (Loads stage) = Goes (record known { held = Loads stage })
with_held known (HasCopy number rows) = load_ended known number rows

-- what becomes of a reply to a read of the load
abbrev pub loaded : Known → Outcome Held → Outcome Known
loaded known = outcome_then (with_held known)

-- whether a row is that of an object that was asked for: it has its id, and the kind that the id has in the copy
abbrev pub is_of : ℕ → ObjectRow → Option KnownRow → Bool
is_of id row None = false
is_of id row (Some before) = nat_eq row.id id && cond (is_folder row.content) before.folder (not before.folder)

-- what becomes of the rows that were shown for an object's own row
abbrev pub row_read : Known → List ObjectRow → ℕ → List ObjectRow → Outcome Known
row_read known rows id [] = CannotBeRead
row_read known rows id (row ∷ []) =
    cond (is_of id row (known_of id (rows_after rows known.happenings)))
    (Goes (record known { happenings = Reads id (record { content = row.content; object_update = row.object_update }) ∷ known.happenings }))
    (Tears id)
row_read known rows id (row ∷ next ∷ others) = CannotBeRead

-- what becomes of a reply to a read of an unread object: a refusal changes nothing, so the object stays unread
abbrev pub object_read : Known → List ObjectRow → ℕ → Shown → Outcome Known
object_read known rows id (Text token) = CannotBeRead
object_read known rows id (Number number) = CannotBeRead
object_read known rows id (Page shown total update) = row_read known rows id shown
object_read known rows id (Fault code) = Goes known

abbrev pub copy_read : Known → List ObjectRow → Option ℕ → Shown → Outcome Known
copy_read known rows None shown = CannotBeRead
copy_read known rows (Some id) shown = object_read known rows id shown

-- what becomes of a reply to the next ask
abbrev pub with_reply : Known → Held → Shown → Outcome Known
with_reply known Idle shown = CannotBeRead
with_reply known (Loads stage) shown = loaded known (stage_taken stage shown)
with_reply known (HasCopy number rows) shown = copy_read known rows (least_unread known.happenings) shown

-- what a replica knows before any turn; and after its turns, the newest of which is the first
abbrev pub nothing_known : Known
nothing_known = record { held = Idle; base = 0; last_note = 0; kept = []; happenings = [] }

abbrev pub known_by : List ReplicaTurn → Known
known_by [] = nothing_known
known_by (Begins ∷ older) = load_begun (known_by older)
known_by (Shows shown ∷ older) = after_outcome (known_by older) (with_reply (known_by older) (known_by older).held shown)
known_by (Requests ∷ older) = known_by older
known_by (Accepts name ∷ older) = after_outcome (known_by older) (with_notes (taken_by (Accepts name) older) (known_by older))
known_by (Refuses ∷ older) = known_by older
known_by (Delivers note ∷ older) = after_outcome (known_by older) (with_notes (taken_by (Delivers note) older) (known_by older))

-- whether a note is refused by the notes alone: its name is not known, or there is no room to hold it
abbrev pub is_turned_away : Arrival → Bool
is_turned_away IsUnknown = true
is_turned_away IsRepeat = false
is_turned_away (IsTooMany held) = true
is_turned_away IsEarly = false
is_turned_away (IsHeld place) = false
is_turned_away IsNext = false

-- whether a turn is refused after the older ones
abbrev pub is_refused : ReplicaTurn → List ReplicaTurn → Bool
is_refused Begins older = false
is_refused (Shows shown) older = is_no (with_reply (known_by older) (known_by older).held shown)
is_refused Requests older = false
is_refused (Accepts name) older = is_no (with_notes (taken_by (Accepts name) older) (known_by older))
is_refused Refuses older = false
is_refused (Delivers note) older =
    is_turned_away (arrival note older) || is_no (with_notes (taken_by (Delivers note) older) (known_by older))

-- the turns with one more: a refused one is none
abbrev pub and_turn : ReplicaTurn → List ReplicaTurn → List ReplicaTurn
and_turn turn older = cond (is_refused turn older) older (turn ∷ older)

-- the next read: that of the load, or else the own row of the least object that is unread
abbrev pub ask_of : Known → Held → Option Ask
ask_of known Idle = None
ask_of known (Loads stage) = Some (stage_ask stage)
ask_of known (HasCopy number rows) = option_map (λ id. Metadata id) (least_unread known.happenings)

abbrev pub next_ask : Known → Option Ask
next_ask known = ask_of known known.held

-- what a copy says, by the least object that is unread: it waits for that; or for a version that was read and is above the
-- position; or it stands
abbrev pub copy_says : Known → Option ℕ → Says
copy_says known (Some id) = BehindRead id
copy_says known None = cond (nat_lt (position known) (read_up_to known.happenings)) (BehindVersion (read_up_to known.happenings)) (Stands (position known))

abbrev pub says_without_gap : Known → Held → Says
says_without_gap known Idle = BehindLoad
says_without_gap known (Loads stage) = BehindLoad
says_without_gap known (HasCopy number rows) = copy_says known (least_unread known.happenings)

-- what a replica says: a place that is missing goes before all else
abbrev pub says_of : Option ℕ → Known → Says
says_of (Some place) known = Gap place
says_of None known = says_without_gap known known.held

abbrev pub says : List ReplicaTurn → Says
says turns = says_of (missing turns) (known_by turns)

-- the rows of the copy whose objects are known, in ascending order of ids; none if no copy stands
abbrev pub rows_held : Held → List Happening → List ObjectRow
rows_held Idle happenings = []
rows_held (Loads stage) happenings = []
rows_held (HasCopy number rows) happenings = filter_map shown_row (rows_after rows happenings)

abbrev pub copied : Known → List ObjectRow
copied known = rows_held known.held known.happenings
