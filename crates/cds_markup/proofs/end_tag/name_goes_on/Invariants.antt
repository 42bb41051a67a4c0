use Rattle.std.proofs.Common.{◌≡◌, ◌+◌, drop, length}
use Rattle.cds_markup.proofs.Terms.{name_bytes, begins_with}
use Rattle.cds_markup.proofs.end_tag.name_goes_on.Given as goal

abbrev pub invariant-loop-first : goal.invariant-loop-first
invariant-loop-first l = record {
  same : begins_with (drop l.at (name_bytes l.name)) l.left ≡ begins_with (drop l.initial.at (name_bytes l.name)) l.bytes;
  place : l.at + length l.left ≡ l.initial.at + length l.bytes;
}

abbrev pub decreases-loop-first : goal.decreases-loop-first
decreases-loop-first l = length l.left
