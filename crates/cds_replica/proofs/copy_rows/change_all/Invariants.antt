use Rattle.std.proofs.Common.{◌≡◌, ◌+◌, ◌≤◌, vec_len, drop}
use Rattle.std.specs.Prelude.{vec_capacity}
use Rattle.std.specs.List.{AllByRecursion}
use Rattle.cds_replica.specs.CopySteps.{rows_changed_by, additions, AddsNoRoot}
use Rattle.cds_replica.proofs.copy_rows.change_all.Given as goal

-- the changes that are left lead to the rows that are owed, and there is room for them
abbrev pub invariant-loop-event : goal.invariant-loop-event
invariant-loop-event l = record {
  rows : rows_changed_by l.rows.items (drop l.event-index l.events) ≡ rows_changed_by l.initial.rows.items l.events;
  room : vec_len l.rows + additions (drop l.event-index l.events) ≤ vec_capacity l.rows;
  above : AllByRecursion AddsNoRoot (drop l.event-index l.events);
}
