use Rattle.std.proofs.Common.{◌≡◌, length}
use Rattle.cds_outside.specs.Entries.{all_differ}
use Rattle.cds_memory.specs.Folders.{entries_of}
use Rattle.cds_memory.proofs.item.all_pairs_differ.Given as goal

abbrev pub invariant-loop-item : goal.invariant-loop-item
invariant-loop-item l = all_differ (entries_of l.left) ≡ all_differ (entries_of l.items)

abbrev pub decreases-loop-item : goal.decreases-loop-item
decreases-loop-item l = length l.left
