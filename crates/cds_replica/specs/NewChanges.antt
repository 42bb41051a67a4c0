-- What notes that are taken one after the other tell.
use Rattle.std.specs.Prelude.{ℕ, Bool, false, nat_lt, max, List, [], ◌++◌, Option, Some, None}
use Rattle.cds_object.specs.declared.event.Event.{Event}
use Rattle.cds_commands.specs.Notes.{Note, changes_above}
use Rattle.cds_follow.specs.Follow.{new_changes, greatest_of}

-- the position and the greatest number of a note after them, and the changes that were new in them
pub record KeptChanges : Type 0 where
  pub position : ℕ
  pub last_note : ℕ
  pub changes : List Event

-- before any note
abbrev pub nothing_told : ℕ → ℕ → KeptChanges
nothing_told position last_note = record { position = position; last_note = last_note; changes = [] }

-- after more notes
abbrev pub tells : List Note → KeptChanges → KeptChanges
tells notes told = record {
  position = greatest_of told.position notes;
  last_note = greatest_of told.last_note notes;
  changes = told.changes ++ new_changes told.position notes;
}

abbrev pub tells_note : Note → KeptChanges → KeptChanges
tells_note note told = record {
  position = max told.position note.number;
  last_note = max told.last_note note.number;
  changes = told.changes ++ changes_above told.position note.events;
}

-- whether the note of place 0, if one is taken, drops the copy
abbrev pub drops_first : ℕ → Option Note → Bool
drops_first position None = false
drops_first position (Some note) = nat_lt position note.number
