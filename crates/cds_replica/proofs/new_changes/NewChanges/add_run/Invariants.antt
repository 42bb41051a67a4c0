use Rattle.std.proofs.Common.{◌≡◌, ◌⊎◌, ◌≤◌}
use Rattle.cds_commands.specs.Notes.{notes_from_to}
use Rattle.cds_replica.specs.Inboxed.{of_name}
use Rattle.cds_replica.specs.NewChanges.{tells}
use Rattle.cds_replica.proofs.new_changes.NewChanges.add_run.Given as goal

-- what the notes up to the place tell was added
abbrev pub invariant-loop-place : goal.invariant-loop-place
invariant-loop-place l = record {
  told : l.self ≡ tells (notes_from_to l.from l.place (of_name l.sid.0 l.notes)) l.fn.self;
  within : (l.place ≡ l.from) ⊎ (l.place ≤ l.to);
}
