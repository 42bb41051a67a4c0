use Rattle.std.proofs.Common.{◌≡◌, drop}
use Rattle.cds_catalog.specs.Library.{map_from, map_of}
use Rattle.cds_store.specs.Lent.{shown}
use Rattle.cds_store.proofs.library.library_of.Given as goal

abbrev pub invariant-loop-found : goal.invariant-loop-found
invariant-loop-found l = map_from (shown l.library.entries) (drop l.found-index l.records) ≡ map_of l.records
