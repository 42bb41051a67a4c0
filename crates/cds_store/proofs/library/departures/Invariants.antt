use Rattle.std.proofs.Common.{◌≡◌, ◌++◌}
use Rattle.std.specs.List.{filter_map}
use Rattle.cds_catalog.specs.Library.{departure}
use Rattle.cds_store.specs.Lent.{shown}
use Rattle.cds_store.proofs.library.departures.Given as goal

abbrev pub invariant-loop-path : goal.invariant-loop-path
invariant-loop-path l =
    l.changes.items ++ filter_map (departure (shown l.new.entries)) (shown l.path-iterator)
    ≡ filter_map (departure (shown l.new.entries)) (shown l.old.entries)
