-- One step of the reading of a text: over a byte of white space, or over a token.
use Rattle.std.specs.Prelude.{ℕ, true, false, List, [], ◌∷◌, Option, Some, None}
use Rattle.cds_criteria.specs.Criteria.{is_space}
use Rattle.cds_criteria.specs.Tokens.{token_found}
use Rattle.cds_criteria.specs.Reading.{Reading, next}
use Rattle.cds_criteria.specs.Course.{reading_of}
use Rattle.cds_criteria.specs.declared.step.Taken.{Taken}

-- how far the reading has come, and how many bytes the token has
abbrev pub with_size : ℕ → Option Reading → Option (Reading × ℕ)
with_size size None = None
with_size size (Some reading) = Some (reading, size)

-- the step over the front of a text, none if a token cannot stand there
abbrev pub taken : Reading → List ℕ → Option (Reading × ℕ)
taken reading [] = None
taken reading (b ∷ text) =
    elim (is_space b) [ true ↦ Some (reading, 1) | false ↦ with_size (token_found b text).size (next reading (token_found b text).token) ]

abbrev pub taken_of : Taken → Reading × ℕ
taken_of t = (reading_of t.course, t.size)
