use Rattle.cds_catalog.proofs.StepsTree.{catalogs_are_trees-proof}
use Rattle.cds_catalog.proofs.laws.catalogs_are_trees.Goals as goal

pub returns : goal.returns
returns c = catalogs_are_trees-proof
