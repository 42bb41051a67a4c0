use Rattle.std.proofs.Common.{◌≡◌, take}
use Rattle.cds_store.proofs.catalog.Catalog.copy.Given as goal

abbrev pub invariant-loop-placed : goal.invariant-loop-placed
invariant-loop-placed l = l.rows.items ≡ take l.placed-index l.self-inside.rows.items
