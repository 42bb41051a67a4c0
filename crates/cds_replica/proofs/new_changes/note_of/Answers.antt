use Rattle.std.proofs.Common.{Some, cond, ◌∙◌, sym, ap}
use Rattle.std.specs.Prelude.{option_copied}
use Rattle.cds_commands.specs.Notes.{note_of}
use Rattle.cds_replica.specs.Inboxed.{of_name}
use Rattle.cds_replica.proofs.NewOnes.{note-whole, note-round, note-rest, copied-place, found-has}
use Rattle.cds_replica.proofs.new_changes.note_of.Goals as goal
use Rattle.cds_replica.proofs.new_changes.note_of.Goals.{then-is_at, else-is_at}

pub loop-note-init : goal.loop-note-init
loop-note-init c = note-whole c.args.sid.0 c.args.place c.args.notes.now

pub loop-note-preserved : goal.loop-note-preserved
loop-note-preserved c =
    elim c.if-is_at.branch [
      | then-is_at w ↦
          note-round c.args.sid.0 c.args.place c.loop-note.note-index c.args.notes.now c.note-item.result (note_of c.args.place (of_name c.args.sid.0 c.args.notes.now))
          (option_copied c.loop-note.found) (option_copied c.if-is_at.found) c.is_at.result c.loop-note-test.true c.note-item.is c.loop-note.invariant c.is_at.ensures
          (ap option_copied w.found-is ∙ (λ j. cond (sym w.if-is_at.true j) (Some c.note-item.result) (option_copied c.loop-note.found)))
      | else-is_at w ↦
          note-round c.args.sid.0 c.args.place c.loop-note.note-index c.args.notes.now c.note-item.result (note_of c.args.place (of_name c.args.sid.0 c.args.notes.now))
          (option_copied c.loop-note.found) (option_copied c.if-is_at.found) c.is_at.result c.loop-note-test.true c.note-item.is c.loop-note.invariant c.is_at.ensures
          (ap option_copied w.found-is ∙ (λ j. cond (sym w.if-is_at.false j) (Some c.note-item.result) (option_copied c.loop-note.found)))
    ]

pub returns-clause-note : goal.returns-clause-note
returns-clause-note c =
    sym (note-rest c.args.sid.0 c.args.place c.loop-note.note-index c.args.notes.now (note_of c.args.place (of_name c.args.sid.0 c.args.notes.now)) (option_copied c.loop-note.found)
    c.loop-note-test.false c.loop-note.invariant)

pub returns-clause-place : goal.returns-clause-place
returns-clause-place c = copied-place c.loop-note.found c.args.place (of_name c.args.sid.0 c.args.notes.now) (returns-clause-note c)

pub returns-clause-found : goal.returns-clause-found
returns-clause-found c = found-has c.loop-note.found c.args.place (of_name c.args.sid.0 c.args.notes.now) (returns-clause-note c)
