-- So far this many datagrams were answered.
use Rattle.std.proofs.Common.{◌-◌, ◌≤◌}
use Rattle.cds_announce.proofs.Answered.{SoFar}
use Rattle.cds_announce.proofs.announcing.announce.Given as goal

abbrev pub invariant-datagrams : goal.invariant-datagrams
invariant-datagrams g l = record {
  so_far : SoFar l.device l.answered (g.U.Datagrams.told l.initial.datagrams) (g.U.Datagrams.told l.datagrams);
  no_more : l.answered ≤ l.count;
}

abbrev pub decreases-datagrams : goal.decreases-datagrams
decreases-datagrams g l = l.count - l.answered
