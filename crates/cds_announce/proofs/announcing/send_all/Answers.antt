-- Each call gives the next reply.
use Rattle.std.proofs.Common.{◌∙◌, ap, refl, arith}
use Rattle.cds_outside.specs.Datagrams.{DatagramsTold}
use Rattle.cds_announce.proofs.Answered.{sent-all, sent-next, sent-none}
use Rattle.cds_announce.proofs.announcing.send_all.Goals as goal

pub replies-init : goal.replies-init
replies-init g c = record { sent = sent-none (g.U.Datagrams.told c.args.datagrams.now).sent; others = refl; never_falls = omega arith }

pub replies-preserved : goal.replies-preserved
replies-preserved g c =
    let old = g.U.Datagrams.told c.args.datagrams.now in
    let mid = g.U.Datagrams.told c.replies.datagrams in
    let new = g.U.Datagrams.told c.send.new.self in
    let so = c.replies.invariant in
    record {
      sent =
          sent-next old.given mid.given c.args.replies.now c.replies.reply-index c.reply-item.result c.as_slice.result.now old.sent mid.sent new.sent
          c.replies-test.true c.reply-item.is c.as_slice.ensures.value (ap (λ (t : DatagramsTold). t.given) so.others) so.sent c.send.ensures.sent;
      others = c.send.ensures.others_stay ∙ ap (λ (t : DatagramsTold). record t { sent = new.sent; faults = new.faults }) so.others;
      never_falls = omega (arith, so.never_falls, c.send.ensures.never_falls);
    }

pub returns-clause-sent : goal.returns-clause-sent
returns-clause-sent g c =
    let old = g.U.Datagrams.told c.args.datagrams.now in
    sent-all old.given c.args.replies.now c.replies.reply-index old.sent (g.U.Datagrams.told c.replies.datagrams).sent (omega (arith, c.replies-test.false))
    c.replies.invariant.sent
