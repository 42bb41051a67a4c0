-- The names found so far have the known ones of the parts so far.
use Rattle.std.proofs.Common.{map}
use Rattle.cds_didl.specs.Filter.{trimmed, HaveTheKnown}
use Rattle.cds_didl.proofs.filtering.found_names.Given as goal

abbrev pub invariant-loop-part : goal.invariant-loop-part
invariant-loop-part l = HaveTheKnown l.found (map (λ x. trimmed x.now) l.yielded)
