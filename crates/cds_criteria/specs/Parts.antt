-- What the parts of search criteria mean.
use Rattle.std.specs.Prelude.{Option, Some, None}
use Rattle.cds_criteria.specs.Criteria.{AnyOf, AllOf, Factor, Criteria, First, Or, Single, And, Compare, Exists, Group, Everything, Where}
use Rattle.cds_criteria.specs.declared.tree.OrNode.{OrNode}
use Rattle.cds_criteria.specs.declared.tree.OrNode.TheVariants as either
use Rattle.cds_criteria.specs.declared.tree.AndNode.{AndNode}
use Rattle.cds_criteria.specs.declared.tree.AndNode.TheVariants as both
use Rattle.cds_criteria.specs.declared.tree.ConditionNode.{ConditionNode}
use Rattle.cds_criteria.specs.declared.tree.ConditionNode.TheVariants as test

abbrev pub any_of : OrNode → AnyOf
any_of (either.First all) = First all
any_of (either.Or any all) = Or any.value all

abbrev pub all_of : AndNode → AllOf
all_of (both.Single factor) = Single factor
all_of (both.And all factor) = And all.value factor

abbrev pub factor_of : ConditionNode → Factor
factor_of (test.Compare property operator value) = Compare property operator value
factor_of (test.Exists property there) = Exists property there
factor_of (test.Group any) = Group any.value

abbrev pub criteria_of : Option AnyOf → Criteria
criteria_of None = Everything
criteria_of (Some any) = Where any
