-- The names so far are those of the order so far.
use Rattle.std.proofs.Common.{◌≡◌, map, take}
use Rattle.std.specs.List.{filter_map}
use Rattle.cds_didl.specs.Filter.{name_in}
use Rattle.cds_didl.proofs.filtering.in_order.Given as goal

abbrev pub invariant-loop-name : goal.invariant-loop-name
invariant-loop-name l = l.names ≡ filter_map (name_in l.found) (map (λ n. n.now) (take l.name-index l.order))
