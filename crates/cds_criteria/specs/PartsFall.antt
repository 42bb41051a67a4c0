-- Each part of criteria has less in it than they have.
use Rattle.std.specs.Prelude.{◌≤◌, max}
use Rattle.std.proofs.Common.{arith}
use Rattle.cds_criteria.specs.declared.tree.OrNode.{OrNode}
use Rattle.cds_criteria.specs.declared.tree.OrNode.TheVariants as either
use Rattle.cds_criteria.specs.declared.tree.AndNode.{AndNode}
use Rattle.cds_criteria.specs.declared.tree.AndNode.TheVariants as both
use Rattle.cds_criteria.specs.declared.tree.ConditionNode.{ConditionNode}
use Rattle.cds_criteria.specs.declared.tree.ConditionNode.TheVariants as test
use Rattle.cds_criteria.specs.declared.tree.Condition.TheDeep.{deep-OrNode, deep-AndNode, deep-ConditionNode}
use Rattle.cds_criteria.specs.Weight.{any_weight, all_weight, factor_weight}
use Rattle.cds_criteria.specs.Parts.{any_of, all_of, factor_of}

pub any_falls : (node : OrNode) → max (deep-OrNode node) 0 ≤ any_weight (any_of node)
any_falls (either.First all) = omega arith
any_falls (either.Or any all) = omega arith

pub all_falls : (node : AndNode) → max (deep-AndNode node) 0 ≤ all_weight (all_of node)
all_falls (both.Single factor) = omega arith
all_falls (both.And all factor) = omega arith

pub factor_falls : (node : ConditionNode) → max (deep-ConditionNode node) 0 ≤ factor_weight (factor_of node)
factor_falls (test.Compare property operator value) = omega arith
factor_falls (test.Exists property there) = omega arith
factor_falls (test.Group any) = omega arith
