use Rattle.std.proofs.Common.{◌≡◌, length}
use Rattle.cds_memory.specs.Folders.{source_at}
use Rattle.cds_memory.proofs.item.open_item.Given as goal

abbrev pub invariant-loop-item : goal.invariant-loop-item
invariant-loop-item l = source_at l.left l.path ≡ source_at l.items l.path

abbrev pub decreases-loop-item : goal.decreases-loop-item
decreases-loop-item l = length l.left
