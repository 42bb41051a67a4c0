-- Notes as they are on the wire: with a SEQ, which wraps, in place of a place (UPnP Device Architecture 2.0 on event keys).
use Rattle.std.specs.Prelude.{ℕ, List}
use Rattle.cds_object.specs.declared.event.Event.{Event}
use Rattle.cds_commands.specs.Notes.{Note}
use Rattle.cds_commands.specs.Places.{seq_at}

pub record WireNote : Type 0 where
  pub name : ℕ
  pub seq : ℕ
  pub number : ℕ
  pub events : List Event

-- a note of a place as it comes
abbrev pub on_wire : ℕ → Note → WireNote
on_wire wrap note = record { name = note.name; seq = seq_at wrap note.place; number = note.number; events = note.events }

-- a note that came, at a place
abbrev pub note_at : WireNote → ℕ → Note
note_at note place = record { name = note.name; place = place; number = note.number; events = note.events }
