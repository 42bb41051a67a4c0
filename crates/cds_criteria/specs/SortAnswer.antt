-- The answers to reading sort criteria.
use Rattle.std.specs.Prelude.{◌≡◌, ℕ, List, Result, Ok, Err}
use Rattle.cds_criteria.specs.Sorting.{SortKey}
use Rattle.cds_criteria.specs.declared.error.CriteriaError.{CriteriaError}
use Rattle.cds_criteria.specs.declared.error.CriteriaError.TheVariants.{BadCriteria, BadSort, Mem}

-- the keys, or the place at which the text is refused, exactly as the reading says; memory may run out
abbrev pub IsSortAnswer : Result (List SortKey) ℕ → Result (List SortKey) CriteriaError → Type 0
IsSortAnswer read (Ok keys) = read ≡ Ok keys
IsSortAnswer read (Err (BadSort at)) = read ≡ Err at
IsSortAnswer read (Err (BadCriteria at)) = ⊥
IsSortAnswer read (Err Mem) = Unit {0}
