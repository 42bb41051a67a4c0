-- How much there is in criteria: more than in each part of them.
use Rattle.std.specs.Prelude.{ℕ, suc, ◌+◌}
use Rattle.cds_criteria.specs.Criteria.{AnyOf, AllOf, Factor, First, Or, Single, And, Compare, Exists, Group}

abbrev mutual
  pub any_weight : AnyOf → ℕ
  any_weight (First all) = suc (all_weight all)
  any_weight (Or any all) = suc (any_weight any + all_weight all)

  pub all_weight : AllOf → ℕ
  all_weight (Single factor) = suc (factor_weight factor)
  all_weight (And all factor) = suc (all_weight all + factor_weight factor)

  pub factor_weight : Factor → ℕ
  factor_weight (Compare property operator value) = 0
  factor_weight (Exists property there) = 0
  factor_weight (Group any) = suc (any_weight any)
