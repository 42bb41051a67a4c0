use Rattle.std.proofs.Common.{◌≤◌, ◌-◌, length}
use Rattle.cds_http.specs.Steps.{Fits}
use Rattle.cds_http.proofs.Walking.{Reached}
use Rattle.cds_http.proofs.body.take_body.Given as goal

abbrev pub invariant-loop-body : goal.invariant-loop-body
invariant-loop-body l = record { within : l.at ≤ length l.piece; reached : Fits l.fn.body → Reached l.fn.body l.piece l.here l.at }

abbrev pub decreases-loop-body : goal.decreases-loop-body
decreases-loop-body l = length l.piece - l.at
