-- A law of the notes of one subscription, over the commands alone.
use Rattle.std.specs.Prelude.{◌≡◌, ◌+◌, ℕ, List, Some}
use Rattle.cds_commands.specs.Commands.{Command}
use Rattle.cds_commands.specs.Notes.{Note, notes_of, sent_to, events_of, note_of, notes_from_to, changes_above, told_between}

-- the notes 1 to k of a subscription hold every change above its first note's number, up to the k-th's, each once and in order
abbrev pub notes_hold_every_change : Type 0
notes_hold_every_change = (first : ℕ) (commands : List Command) (name k : ℕ) (begin last : Note) →
    note_of 0 (sent_to name (notes_of first commands)) ≡ Some begin →
    note_of k (sent_to name (notes_of first commands)) ≡ Some last →
    changes_above begin.number (events_of (notes_from_to 1 (k + 1) (sent_to name (notes_of first commands))))
    ≡ told_between first commands begin.number last.number
