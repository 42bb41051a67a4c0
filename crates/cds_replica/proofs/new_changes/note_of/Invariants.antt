use Rattle.std.proofs.Common.{◌≡◌, drop}
use Rattle.std.specs.Prelude.{option_copied}
use Rattle.cds_commands.specs.Notes.{note_of}
use Rattle.cds_replica.specs.Inboxed.{of_name}
use Rattle.cds_replica.proofs.NewOnes.{later_or}
use Rattle.cds_replica.proofs.new_changes.note_of.Given as goal

-- of the notes that are left one is the answer, or else it is that which was found so far
abbrev pub invariant-loop-note : goal.invariant-loop-note
invariant-loop-note l =
    note_of l.place (of_name l.sid.0 l.notes) ≡ later_or (note_of l.place (of_name l.sid.0 (drop l.note-index l.notes))) (option_copied l.found)
