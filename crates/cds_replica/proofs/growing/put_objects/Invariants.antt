use Rattle.std.proofs.Common.{◌≡◌, ◌+◌, ◌≤◌, length, vec_len}
use Rattle.std.specs.Prelude.{vec_capacity}
use Rattle.cds_load.specs.Stages.{put_rows, put_containers}
use Rattle.cds_replica.specs.Order.{KeysAscend, id_of_row, id_of_waiting}
use Rattle.cds_replica.proofs.growing.put_objects.Given as goal

-- the objects so far stand in their places, and there is room for the others
abbrev pub invariant-loop-row : goal.invariant-loop-row
invariant-loop-row l = record {
  rows : l.rows.items ≡ put_rows l.yielded l.initial.rows.items;
  waiting : l.waiting.items ≡ put_containers l.yielded l.initial.waiting.items;
  rows_len : vec_len l.rows ≡ vec_len l.initial.rows + length l.yielded;
  waiting_len : vec_len l.waiting ≤ vec_len l.initial.waiting + length l.yielded;
  rows_ascend : KeysAscend id_of_row l.rows.items;
  waiting_ascend : KeysAscend id_of_waiting l.waiting.items;
  rows_capacity : vec_capacity l.initial.rows ≤ vec_capacity l.rows;
  waiting_capacity : vec_capacity l.initial.waiting ≤ vec_capacity l.waiting;
}
