use Rattle.std.proofs.Common.{◌≡◌, length}
use Rattle.cds_memory.specs.Folders.{ascends}
use Rattle.cds_memory.proofs.item.is_ascending.Given as goal

abbrev pub invariant-loop-item : goal.invariant-loop-item
invariant-loop-item l = ascends l.left ≡ ascends l.items

abbrev pub decreases-loop-item : goal.decreases-loop-item
decreases-loop-item l = length l.left
