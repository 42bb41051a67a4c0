-- What is left of the text is read on.
use Rattle.std.proofs.Common.{◌≡◌, ◌≤◌, length}
use Rattle.cds_criteria.specs.Reading.{Start, read_on}
use Rattle.cds_criteria.specs.Tokens.{tokens_of}
use Rattle.cds_criteria.specs.Course.{reading_of}
use Rattle.cds_criteria.proofs.TextRead.{left_on}
use Rattle.cds_criteria.proofs.criteria.read_text.Given as goal

abbrev pub invariant-loop-rest : goal.invariant-loop-rest
invariant-loop-rest l = record {
  read : read_on (length l.text) Start (tokens_of l.text) ≡ left_on (length l.text) (reading_of l.course) l.rest;
  within : length l.rest ≤ length l.text;
}

abbrev pub decreases-loop-rest : goal.decreases-loop-rest
decreases-loop-rest l = length l.rest
