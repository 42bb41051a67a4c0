use Rattle.std.proofs.Common.{◌≡◌, drop}
use Rattle.cds_catalog.specs.Steps.{id_at}
use Rattle.cds_store.proofs.catalog.id_at.Given as goal

abbrev pub invariant-loop-placed : goal.invariant-loop-placed
invariant-loop-placed l = id_at l.path (drop l.placed-index l.rows) ≡ id_at l.path l.rows
