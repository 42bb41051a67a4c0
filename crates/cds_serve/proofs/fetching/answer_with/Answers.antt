-- The text of a reply that is there is written.
use Rattle.std.proofs.Common.{◌≡◌, List, ℕ, Result, IfOk, refl, sym, subst}
use Rattle.cds_base.specs.declared.mem.Mem.{Mem}
use Rattle.cds_serve.specs.Told.{Writes}
use Rattle.cds_serve.proofs.fetching.answer_with.Goals as goal

pub returns-in-Ok-clause-answered : goal.returns-in-Ok-clause-answered
returns-in-Ok-clause-answered g c =
    subst (λ (r : Result (List ℕ) Mem). IfOk r (λ t. (c.args.fate ≡ c.args.fate) × Writes t (g.C.Sink.told c.args.conn.now) (g.C.Sink.told c.write.new.conn)))
    (sym c.in-Ok.is)
    (refl, subst (λ (t : List ℕ). Writes t (g.C.Sink.told c.args.conn.now) (g.C.Sink.told c.write.new.conn)) c.as_slice.ensures c.write.ensures.written)
