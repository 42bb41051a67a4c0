use Rattle.std.proofs.Common.{◌≡◌, ◌++◌, drop}
use Rattle.std.specs.List.{filter_map}
use Rattle.cds_store.specs.Offspring.{child_of}
use Rattle.cds_store.proofs.offspring.children_among.Given as goal

abbrev pub invariant-loop-placed : goal.invariant-loop-placed
invariant-loop-placed l = l.children.items ++ filter_map child_of (drop l.placed-index l.rows) ≡ filter_map child_of l.rows
