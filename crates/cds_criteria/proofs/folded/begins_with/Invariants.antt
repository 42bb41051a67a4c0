-- What is left of both texts decides.
use Rattle.std.proofs.Common.{◌≡◌, drop}
use Rattle.cds_criteria.specs.Meaning.{folded, begins_with}
use Rattle.cds_criteria.proofs.folded.begins_with.Given as goal

abbrev pub invariant-loop-byte : goal.invariant-loop-byte
invariant-loop-byte l = begins_with (folded l.part) (folded l.text) ≡ begins_with (folded (drop l.byte-index l.part)) (folded l.rest)
