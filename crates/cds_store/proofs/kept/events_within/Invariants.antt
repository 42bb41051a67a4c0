use Rattle.std.proofs.Common.{◌≡◌, ◌++◌, drop}
use Rattle.cds_changes.specs.EventsWithParents.{events_in}
use Rattle.cds_store.proofs.kept.events_within.Given as goal

abbrev pub invariant-loop-item : goal.invariant-loop-item
invariant-loop-item l = l.events.items ++ events_in l.span.from l.span.to (drop l.item-index l.kept) ≡ events_in l.span.from l.span.to l.kept
