-- The rows of a store stand in ascending order of ids.
use Rattle.std.proofs.Common.{sym, subst}
use Rattle.cds_object.specs.Tree.{IdsAscend}
use Rattle.cds_catalog.specs.Steps.{Standing}
use Rattle.cds_catalog.proofs.StepsTree.{catalogs_are_trees-proof}
use Rattle.cds_store.specs.Rows.{rows_of}
use Rattle.cds_store.specs.Stands.{Stored, IsStore}

pub rows_ascend : (store : Stored) → IsStore store → IdsAscend (rows_of store.standing.rows)
rows_ascend store is =
    subst (λ (s : Standing). IdsAscend (rows_of s.rows)) (sym is.stands.1) (catalogs_are_trees-proof is.history is.stands.0).ascending
