-- What is left of the text decides.
use Rattle.std.proofs.Common.{◌≡◌, ◌∷◌, drop}
use Rattle.cds_criteria.specs.Meaning.{folded, has_part}
use Rattle.cds_criteria.proofs.folded.has_after.Given as goal

abbrev pub invariant-loop-at : goal.invariant-loop-at
invariant-loop-at l = has_part (l.first ∷ folded l.others) (folded l.text) ≡ has_part (l.first ∷ folded l.others) (folded (drop l.at l.text))
