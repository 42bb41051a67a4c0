use Rattle.std.proofs.Common.{◌<◌, ◌^◌, subst, arith}
use Rattle.cds_store.specs.Rows.{rows_of}
use Rattle.cds_store.specs.Stands.{Stored}
use Rattle.cds_store.specs.Views.{IsView}
use Rattle.cds_store.proofs.Views.{is_view}
use Rattle.cds_store.proofs.store.StoreView.view_facts.Goals as goal

pub returns : goal.returns
returns c =
    let store : Stored = record { standing = c.self.inside.catalog; forgotten = c.self.inside.forgotten; kept = c.self.inside.kept.items } in
    let fits : store.standing.number < 2 ^ 32 = omega (arith, c.number-newest.ensures) in
    subst (λ (s : Stored). IsView (rows_of s.standing.rows)) c.self.view_is (is_view store c.self.invariant.store fits)
