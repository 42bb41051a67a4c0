-- What is left has the same text without the spaces at its end.
use Rattle.std.proofs.Common.{◌≡◌, ◌≤◌, length, take}
use Rattle.cds_didl.specs.Filter.{without_back}
use Rattle.cds_didl.proofs.filtering.without_back.Given as goal

abbrev pub invariant-loop-end : goal.invariant-loop-end
invariant-loop-end l = (l.end ≤ length l.text) × (without_back (take l.end l.text) ≡ without_back l.text)

abbrev pub decreases-loop-end : goal.decreases-loop-end
decreases-loop-end l = l.end
