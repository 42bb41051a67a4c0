use Rattle.std.proofs.Common.{◌≡◌, ◌++◌, map, take, drop}
use Rattle.cds_follow.specs.Copy.{known_of}
use Rattle.cds_replica.specs.CopyState.{KeptRow}
use Rattle.cds_replica.specs.CopySteps.{rows_read}
use Rattle.cds_replica.proofs.copy_rows.read.Given as goal

-- the object's row is not among those so far
abbrev pub invariant-loop-at : goal.invariant-loop-at
invariant-loop-at l = record {
  same : l.rows ≡ l.initial.rows;
  left : take l.at l.rows ++ rows_read l.id (record { content = l.content; object_update = l.version }) (drop l.at l.rows)
      ≡ rows_read l.id (record { content = l.content; object_update = l.version }) l.rows;
  kind : known_of l.id (map (λ (kept : KeptRow). kept.row) (drop l.at l.rows)) ≡ known_of l.id (map (λ (kept : KeptRow). kept.row) l.rows);
}
