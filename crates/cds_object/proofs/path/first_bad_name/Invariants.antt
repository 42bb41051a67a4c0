-- The first bad name is among the names that are left, and the place has not passed 256 bytes for each name.
use Rattle.std.proofs.Common.{◌≡◌, ◌≤◌, ◌*◌, drop}
use Rattle.cds_object.specs.Path.{bad_name_at}
use Rattle.cds_object.proofs.path.first_bad_name.Given as goal

abbrev pub invariant-loop-number : goal.invariant-loop-number
invariant-loop-number l = record {
  rest : bad_name_at 0 0 l.names ≡ bad_name_at l.number l.at (drop l.number l.names);
  near : l.at ≤ 256 * l.number;
  few : l.number ≤ 16;
}
