use Rattle.std.proofs.Common.{ℕ, subst, sym}
use Rattle.cds_announce.specs.Ended.{EndsAnnouncement}
use Rattle.cds_announce.proofs.Ending.{given-back}
use Rattle.cds_announce.proofs.ended.announce_given.Goals as goal

pub returns-clause-ends : goal.returns-clause-ends
returns-clause-ends g c =
    let old = g.O.Outside.told c.args.outside.now in
    let new = g.O.Outside.told c.end_datagrams.new.self in
    subst (λ (status : ℕ). EndsAnnouncement c.args.device.now c.args.count status old new) (sym c.status_of.ensures)
    (given-back c.args.device.now c.args.count c.announce-ended.result (g.O.U.Datagrams.told c.args.given) (g.O.U.Datagrams.told c.announce-ended.new.datagrams)
    old new c.requires.unheard c.announce-ended.ensures c.ranges.count.fits c.end_datagrams.ensures.faults c.end_datagrams.ensures.ended_datagrams
    c.end_datagrams.ensures.given)
