use Rattle.std.proofs.Common.{◌≡◌, length}
use Rattle.cds_script.specs.Word.{decoded}
use Rattle.cds_script.proofs.Words.{joined}
use Rattle.cds_script.proofs.word.decode.Given as goal

abbrev pub invariant-loop-rest : goal.invariant-loop-rest
invariant-loop-rest l = decoded l.part ≡ joined l.word (decoded l.rest)

abbrev pub decreases-loop-rest : goal.decreases-loop-rest
decreases-loop-rest l = length l.rest
