-- So far each connection that the door gave was served.
use Rattle.std.proofs.Common.{◌≡◌, ◌-◌, ◌≤◌}
use Rattle.cds_outside.specs.Outside.{raised}
use Rattle.cds_turn.specs.Turn.{IsSeatOf, own_by, passes_of}
use Rattle.cds_serve.specs.Jobs.{AddsAnswers}
use Rattle.cds_serve.proofs.worker.serve_share.Given as goal

abbrev pub invariant-connections : goal.invariant-connections
invariant-connections g l = record {
  seat : IsSeatOf l.turn l.seat;
  passes : passes_of l.seat ≡ passes_of l.initial.seat;
  own : AddsAnswers (own_by l.initial.seat) (own_by l.seat);
  gave : raised (g.D.Door.told l.post.door).connections 0 ≡ raised (g.D.Door.told l.initial.post.door).connections l.served;
  no_more : l.served ≤ l.share;
  never_falls : (g.D.Door.told l.initial.post.door).faults ≤ (g.D.Door.told l.post.door).faults;
}

abbrev pub decreases-connections : goal.decreases-connections
decreases-connections g l = l.share - l.served
