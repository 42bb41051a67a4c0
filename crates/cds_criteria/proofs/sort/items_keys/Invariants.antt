-- What is left is read after the keys so far.
use Rattle.std.proofs.Common.{◌≡◌, ◌≤◌, length}
use Rattle.cds_criteria.specs.Sorting.{items_from, items_read}
use Rattle.cds_criteria.proofs.SortItems.{left_read}
use Rattle.cds_criteria.proofs.sort.items_keys.Given as goal

abbrev pub invariant-loop-keys : goal.invariant-loop-keys
invariant-loop-keys l = record {
  read : items_read (items_from 0 l.text) ≡ left_read l.keys (length l.text) l.rest;
  within : length l.rest ≤ length l.text;
}

abbrev pub decreases-loop-keys : goal.decreases-loop-keys
decreases-loop-keys l = length l.rest
