use Rattle.std.proofs.Common.{◌≡◌, ◌++◌}
use Rattle.std.specs.List.{filter_map}
use Rattle.cds_catalog.specs.Library.{arrival}
use Rattle.cds_store.specs.Lent.{shown}
use Rattle.cds_store.proofs.library.arrivals.Given as goal

abbrev pub invariant-loop-path : goal.invariant-loop-path
invariant-loop-path l =
    l.changes.items ++ filter_map (arrival (shown l.old.entries)) (shown l.path-iterator)
    ≡ l.initial.changes.items ++ filter_map (arrival (shown l.old.entries)) (shown l.new.entries)
