use Rattle.std.proofs.Common.{◌≡◌, length}
use Rattle.cds_gena.specs.Asked.{behind_spaces}
use Rattle.cds_gena.proofs.gena.behind_spaces.Given as goal

abbrev pub invariant-loop-first : goal.invariant-loop-first
invariant-loop-first l = behind_spaces l.rest ≡ behind_spaces l.fn.text

abbrev pub decreases-loop-first : goal.decreases-loop-first
decreases-loop-first l = length l.rest
