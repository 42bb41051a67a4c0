-- What is left of the text is read after the bytes of the value so far.
use Rattle.std.proofs.Common.{◌≡◌, false}
use Rattle.cds_criteria.specs.Tokens.{value_found}
use Rattle.cds_criteria.proofs.Values.{value_left}
use Rattle.cds_criteria.proofs.token.value_found.Given as goal

abbrev pub invariant-loop-size : goal.invariant-loop-size
invariant-loop-size l = value_found false l.text ≡ value_left l.value l.escaped l.size l.text
