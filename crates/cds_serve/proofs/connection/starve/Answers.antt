use Rattle.std.proofs.Common.{List, ℕ, subst}
use Rattle.cds_serve.specs.Told.{Writes}
use Rattle.cds_serve.proofs.connection.starve.Goals as goal

pub returns-clause-written : goal.returns-clause-written
returns-clause-written g c =
    subst (λ (t : List ℕ). Writes t (g.C.Sink.told c.args.conn.now) (g.C.Sink.told c.write.new.conn))
    c.no_memory_reply.ensures c.write.ensures.written
