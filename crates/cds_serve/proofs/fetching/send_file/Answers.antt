-- The connection is finished after what was sent.
use Rattle.std.proofs.Common.{◌++◌, take, sym, subst}
use Rattle.cds_outside.specs.Outside.{Rose, SinkTold}
use Rattle.cds_serve.specs.Fetched.{WritesUnless}
use Rattle.cds_serve.proofs.fetching.send_file.Goals as goal

pub returns-clause-sent : goal.returns-clause-sent
returns-clause-sent g c = λ bytes told.
    subst (λ (t : SinkTold). WritesUnless (Rose (g.S.Source.told c.args.file.now).faults (g.S.Source.told c.send_both.new.file).faults)
    (c.args.head.now ++ take c.args.count bytes) (g.C.Sink.told c.args.conn.now) t)
    (sym c.finish.ensures.sink_stays) (c.send_both.ensures.sent bytes told)
