use Rattle.std.proofs.Common.{List, ℕ, sym, ◌∙◌, subst}
use Rattle.cds_serve.specs.Told.{Writes}
use Rattle.cds_serve.proofs.Courses.{free-starved}
use Rattle.cds_serve.proofs.connection.answer_free.Goals as goal

pub returns-in-Ok-clause-written : goal.returns-in-Ok-clause-written
returns-in-Ok-clause-written g c =
    subst (λ (t : List ℕ). Writes t (g.C.Sink.told c.args.conn.now) (g.C.Sink.told c.write.new.conn))
    (c.as_slice.ensures ∙ c.in-Ok.ensures) c.write.ensures.written

pub returns-in-Err-clause-written : goal.returns-in-Err-clause-written
returns-in-Err-clause-written g c =
    subst (λ (t : List ℕ). Writes t (g.C.Sink.told c.args.conn.now) (g.C.Sink.told c.starve.new.conn))
    (sym (free-starved c.args.device.now c.args.answer c.starve.result c.starve.ensures.starved)) c.starve.ensures.written
