-- One datagram more was answered, or that ended.
use Rattle.std.proofs.Common.{[], refl, arith}
use Rattle.std.specs.Prelude.{⊤}
use Rattle.cds_announce.proofs.Answered.{announces-none, one-more, then-ends}
use Rattle.cds_announce.proofs.announcing.announce.Goals as goal

pub datagrams-init : goal.datagrams-init
datagrams-init g c = record {
  so_far = ([], announces-none c.args.device.now (g.U.Datagrams.told c.args.datagrams.now), refl);
  no_more = omega arith;
}

pub datagrams-preserved : goal.datagrams-preserved
datagrams-preserved g c = record {
  so_far =
      one-more c.args.device.now c.datagrams.answered (g.U.Datagrams.told c.args.datagrams.now) (g.U.Datagrams.told c.datagrams.datagrams)
      (g.U.Datagrams.told c.answer_next.new.datagrams) c.datagrams.invariant.so_far c.in-Ok.ensures;
  no_more = omega (arith, c.datagrams-test.true);
}

pub returns-in-Err : goal.returns-in-Err
returns-in-Err g c =
    then-ends ⊤ c.args.device.now c.datagrams.answered c.args.count (g.U.Datagrams.told c.args.datagrams.now) (g.U.Datagrams.told c.datagrams.datagrams)
    (g.U.Datagrams.told c.answer_next.new.datagrams) c.in-Err.fault c.datagrams.invariant.so_far c.datagrams-test.true c.in-Err.ensures
