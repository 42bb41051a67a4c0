use Rattle.std.proofs.Common.{◌≡◌, ◌++◌, take}
use Rattle.cds_commands.specs.Notes.{changes_above}
use Rattle.cds_replica.proofs.changes.add_changes_above.Given as goal

-- those of the events so far stand behind the others
abbrev pub invariant-loop-event : goal.invariant-loop-event
invariant-loop-event l = l.changes.items ≡ l.fn.changes.items ++ changes_above l.number (take l.event-index l.events)
