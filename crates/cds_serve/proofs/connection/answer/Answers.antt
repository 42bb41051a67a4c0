use Rattle.std.proofs.Common.{List, ℕ, sym, ap, ◌∙◌, subst}
use Rattle.cds_serve.specs.Acts.{reply_text}
use Rattle.cds_serve.specs.Told.{Writes}
use Rattle.cds_serve.proofs.connection.answer.Goals as goal

pub returns-in-Ok-clause-written : goal.returns-in-Ok-clause-written
returns-in-Ok-clause-written g c =
    subst (λ (t : List ℕ). Writes t (g.C.Sink.told c.args.conn.now) (g.C.Sink.told c.write.new.conn))
    (c.as_slice.ensures ∙ sym (ap reply_text c.in-Ok.is)) c.write.ensures.written

pub returns-in-Err-clause-written : goal.returns-in-Err-clause-written
returns-in-Err-clause-written g c =
    subst (λ (t : List ℕ). Writes t (g.C.Sink.told c.args.conn.now) (g.C.Sink.told c.starve.new.conn))
    (sym (ap reply_text c.in-Err.is)) c.starve.ensures.written
