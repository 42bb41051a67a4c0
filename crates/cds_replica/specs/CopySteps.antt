-- What a change, and a read, make of a copy.
use Rattle.std.specs.Prelude.{◌≡◌, ◌+◌, ◌<◌, ◌||◌, ℕ, Bool, true, false, cond, not, nat_eq, max, List, [], ◌∷◌, map, filter, Option, Some, None, Result, Ok, Err}
use Rattle.std.specs.List.{count_by}
use Rattle.std.specs.Option.{option_map, option_eq}
use Rattle.cds_object.specs.Object.{ObjectRow, is_folder}
use Rattle.cds_object.specs.declared.content.Content.{Content}
use Rattle.cds_object.specs.declared.row.Trackers.{Trackers}
use Rattle.cds_object.specs.declared.event.Class.{Class}
use Rattle.cds_object.specs.declared.event.Event.{Event}
use Rattle.cds_object.specs.declared.event.Event.TheVariants.{ObjAdd, ObjMod, ObjDel, StDone}
use Rattle.cds_load.specs.Stages.{put_by}
use Rattle.cds_follow.specs.Copy.{Version, KnownRow, known_row, known_of, parent_in, counts_addition, counts_modification, counts_deletion, added_row, changed, cannot_be, newer}
use Rattle.cds_load.specs.Outcome.{Outcome, Goes, Jumps, Tears, outcome_map}
use Rattle.cds_follow.specs.Follow.{Known, is_of}
use Rattle.cds_replica.specs.CopyState.{KeptRow, KeptCopy, kept_id, copy_of, bare_rows}
use Rattle.cds_replica.specs.declared.copy_row.ChildChange.{ChildChange}
use Rattle.cds_replica.specs.declared.copy_row.ChildChange.TheVariants.{Added, Modified, Deleted}
use Rattle.cds_replica.specs.declared.count_error.CountError.{CountError}
use Rattle.cds_replica.specs.declared.count_error.CountError.TheVariants.{Jump, Torn, Mem}
use Rattle.cds_object.specs.Events.{update_of, is_container, object_of}

-- a row that a load has read
abbrev pub loaded_row : ObjectRow → KeptRow
loaded_row row = record { row = known_row row; wanted = 0; shown = 0 }

-- the trackers of a container after a change of a child
abbrev pub counts : ChildChange → ℕ → Trackers → Trackers
counts Added number = counts_addition number
counts Modified number = counts_modification number
counts Deleted number = counts_deletion number

-- a row with the trackers of a container counted
abbrev pub count_row : ChildChange → ℕ → ObjectRow → ObjectRow
count_row change number row = record row { trackers = option_map (counts change number) row.trackers }

-- a row whose trackers are counted anew if it is the parent's; and so each of several
abbrev pub counted_row : (Trackers → Trackers) → Option ℕ → KeptRow → KeptRow
counted_row count parent kept =
    cond (option_eq nat_eq (Some kept.row.id) parent) (record kept { row = record kept.row { trackers = option_map count kept.row.trackers } }) kept

abbrev pub counted_rows : (Trackers → Trackers) → Option ℕ → List KeptRow → List KeptRow
counted_rows count parent rows = map (counted_row count parent) rows

-- a row that is wanted at a number if it has the id; and so each of several
abbrev pub wanted_row : ℕ → ℕ → KeptRow → KeptRow
wanted_row id number kept = cond (nat_eq id kept.row.id) (record kept { wanted = max number kept.wanted }) kept

abbrev pub wanted_rows : ℕ → ℕ → List KeptRow → List KeptRow
wanted_rows id number rows = map (wanted_row id number) rows

-- the parent of an id
abbrev pub parent_among : ℕ → List KeptRow → Option ℕ
parent_among id rows = parent_in id (map (λ (kept : KeptRow). kept.row) rows)

-- the trackers of a container that was added; a track has none
abbrev pub new_trackers : ℕ → Class → Option Trackers
new_trackers number class = cond (is_container class) (Some (record { container_update = number; child_count = 0; deleted = 0 })) None

-- the row of an object that a note added
abbrev pub new_row : ℕ → ℕ → ℕ → Class → KeptRow
new_row id number parent class = record { row = added_row id number parent class; wanted = number; shown = 0 }

-- the rows without that of an id
abbrev pub rows_without : ℕ → List KeptRow → List KeptRow
rows_without id rows = filter (λ (kept : KeptRow). not (nat_eq kept.row.id id)) rows

-- the rows after a change, and after several, the first of which is the oldest
abbrev pub rows_changed : List KeptRow → Event → List KeptRow
rows_changed rows (ObjAdd id number st parent class) = put_by kept_id (new_row id number parent class) (counted_rows (counts_addition number) (Some parent) rows)
rows_changed rows (ObjMod id number st) = wanted_rows id number (counted_rows (counts_modification number) (parent_among id rows) rows)
rows_changed rows (ObjDel id number st) = counted_rows (counts_deletion number) (parent_among id rows) (rows_without id rows)
rows_changed rows (StDone id number) = rows

abbrev pub rows_changed_by : List KeptRow → List Event → List KeptRow
rows_changed_by rows [] = rows
rows_changed_by rows (event ∷ events) = rows_changed_by (rows_changed rows event) events

-- how many rows a change adds, and how many several add
abbrev pub is_addition : Event → Bool
is_addition (ObjAdd id number st parent class) = true
is_addition (ObjMod id number st) = false
is_addition (ObjDel id number st) = false
is_addition (StDone id number) = false

abbrev pub adds : Event → ℕ
adds event = cond (is_addition event) 1 0

abbrev pub additions : List Event → ℕ
additions events = count_by is_addition events

-- a change does not add the root
abbrev pub AddsNoRoot : Event → Type 0
AddsNoRoot (ObjAdd id number st parent class) = 0 < id
AddsNoRoot (ObjMod id number st) = Unit {0}
AddsNoRoot (ObjDel id number st) = Unit {0}
AddsNoRoot (StDone id number) = Unit {0}

-- whether a change cannot be: none adds the root
abbrev pub cannot_come : List KnownRow → Event → Bool
cannot_come rows (ObjAdd id number st parent class) = nat_eq id 0 || cannot_be rows (ObjAdd id number st parent class)
cannot_come rows (ObjMod id number st) = cannot_be rows (ObjMod id number st)
cannot_come rows (ObjDel id number st) = cannot_be rows (ObjDel id number st)
cannot_come rows (StDone id number) = cannot_be rows (StDone id number)

-- the first change that cannot be, one by one on known rows, by its object
abbrev pub first_cannot : List KnownRow → List Event → Option ℕ
first_cannot rows [] = None
first_cannot rows (event ∷ events) = cond (cannot_come rows event) (Some (object_of event)) (first_cannot (changed rows event) events)

-- what becomes of changes on a copy
abbrev pub judged_count : KeptCopy → List Event → Option ℕ → Outcome KeptCopy
judged_count copy events (Some id) = Tears id
judged_count copy events None = Goes (record copy { rows = rows_changed_by copy.rows events })

abbrev pub count_from : KeptCopy → ℕ → List Event → Outcome KeptCopy
count_from copy at [] = Goes copy
count_from copy at (event ∷ events) =
    cond (nat_eq (update_of event) (at + 1)) (judged_count copy (event ∷ events) (first_cannot (bare_rows copy) (event ∷ events)))
    (Jumps (at + 1) (update_of event))

-- the same of what a replica knows whose copy began with these rows
abbrev pub count_of : List ObjectRow → Outcome Known → Outcome KeptCopy
count_of rows = outcome_map (λ (now : Known). copy_of rows now.happenings)

-- the refusal if the first of changes is not the one after a position
abbrev pub leap_from : ℕ → List Event → Option CountError
leap_from at [] = None
leap_from at (event ∷ events) = cond (nat_eq (update_of event) (at + 1)) None (Some (Jump (at + 1) (update_of event)))

-- an answer to changes is exactly what becomes of them, and a refusal changes nothing. If memory runs out, this is the answer
-- instead, and nothing changes
abbrev pub IsHeard : {X : Type 0} → Outcome X → X → X → Result (Unit {0}) CountError → Type 0
IsHeard becomes old new (Ok done) = becomes ≡ Goes new
IsHeard becomes old new (Err (Jump expected first)) = (becomes ≡ Jumps expected first) × (new ≡ old)
IsHeard becomes old new (Err (Torn id)) = (becomes ≡ Tears id) × (new ≡ old)
IsHeard becomes old new (Err Mem) = new ≡ old

-- a row after the object's own row was read
abbrev pub read_of_row : Version → KeptRow → KeptRow
read_of_row v kept = record kept { row = record kept.row { says = Some (newer v kept.row.says) }; shown = max v.object_update kept.shown }

-- a content is of the kind of a row, if there is one
abbrev pub IsOfKind : Content → Option KnownRow → Type 0
IsOfKind content None = Unit {0}
IsOfKind content (Some row) = is_folder content ≡ row.folder

-- the rows after the own row of the object of an id was read
abbrev pub rows_read : ℕ → Version → List KeptRow → List KeptRow
rows_read id v [] = []
rows_read id v (kept ∷ rows) = cond (nat_eq id kept.row.id) (read_of_row v kept ∷ rows) (kept ∷ rows_read id v rows)

-- the version that a row shows
abbrev pub version_of : ObjectRow → Version
version_of row = record { content = row.content; object_update = row.object_update }

-- a copy after an object's own row was read
abbrev pub copy_read : KeptCopy → ℕ → Version → KeptCopy
copy_read copy id v = record { rows = rows_read id v copy.rows; read_up_to = max v.object_update copy.read_up_to }

-- whether a row can be that of an object of a copy
abbrev pub can_be_of : KeptCopy → ℕ → ObjectRow → Bool
can_be_of copy id row = is_of id row (known_of id (bare_rows copy))
