-- The answers to reading search criteria.
use Rattle.std.specs.Prelude.{◌≡◌, ℕ, Result, Ok, Err}
use Rattle.cds_criteria.specs.Criteria.{Criteria}
use Rattle.cds_criteria.specs.declared.error.CriteriaError.{CriteriaError}
use Rattle.cds_criteria.specs.declared.error.CriteriaError.TheVariants.{BadCriteria, BadSort, Mem}

-- the criteria, or the place at which the text is refused, exactly as the reading says; memory may run out
abbrev pub IsCriteriaAnswer : Result Criteria ℕ → Result Criteria CriteriaError → Type 0
IsCriteriaAnswer read (Ok criteria) = read ≡ Ok criteria
IsCriteriaAnswer read (Err (BadCriteria at)) = read ≡ Err at
IsCriteriaAnswer read (Err (BadSort at)) = ⊥
IsCriteriaAnswer read (Err Mem) = Unit {0}
