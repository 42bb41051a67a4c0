use Rattle.std.proofs.Common.{◌≡◌, drop}
use Rattle.cds_replica.specs.Outlines.{outlines_cannot}
use Rattle.cds_replica.proofs.outline.first_cannot.Given as goal

abbrev pub invariant-loop-event : goal.invariant-loop-event
invariant-loop-event l = outlines_cannot l.outlines.items (drop l.event-index l.events) ≡ outlines_cannot l.fn.outlines.items l.events
