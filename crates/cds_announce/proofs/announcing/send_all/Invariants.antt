-- So far the replies before the one that the loop is at were given to be sent.
use Rattle.std.proofs.Common.{◌≡◌, ◌≤◌, take}
use Rattle.cds_announce.proofs.Answered.{SendsAll, replies-of}
use Rattle.cds_announce.proofs.announcing.send_all.Given as goal

abbrev pub invariant-replies : goal.invariant-replies
invariant-replies g l = record {
  sent : SendsAll (replies-of (g.U.Datagrams.told l.initial.datagrams).given (take l.reply-index l.replies)) (g.U.Datagrams.told l.initial.datagrams).sent (g.U.Datagrams.told l.datagrams).sent;
  others : g.U.Datagrams.told l.datagrams ≡ record (g.U.Datagrams.told l.initial.datagrams) { sent = (g.U.Datagrams.told l.datagrams).sent; faults = (g.U.Datagrams.told l.datagrams).faults };
  never_falls : (g.U.Datagrams.told l.initial.datagrams).faults ≤ (g.U.Datagrams.told l.datagrams).faults;
}
