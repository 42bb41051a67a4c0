use Rattle.std.proofs.Common.{Ok, arith, sym, ◌∙◌}
use Rattle.cds_markup.specs.Tellings.{told, telling_of}
use Rattle.cds_markup.proofs.ToldBytes.{byte-more, byte-refused, bytes-over, enough-so}
use Rattle.cds_markup.proofs.Quiet.{run_more, run_none}
use Rattle.cds_markup.proofs.part_reader.Spot.pass.Goals as goal

pub returns-then-has_enough : goal.returns-then-has_enough
returns-then-has_enough g c =
    let p = telling_of c.loop-first.self in
    c.loop-first.invariant.all (Ok tt) c.loop-first.to p (enough-so g.S.PartSink.took g.S.PartSink.enough c.loop-first.to (told p c.loop-first.left.now) p (sym c.has_enough.ensures ∙ c.if-has_enough.true))

pub returns-in-Err : goal.returns-in-Err
returns-in-Err g c =
    byte-refused _ _ _ _ _ _ _ _ _ _ c.in-Err.refusal
    (rw c.in-Some.ensures.cases.0 at (run_none _ _ _ _ _ _ _ _ _ c.loop-first.invariant c.in_ok-count.ensures (omega (arith, c.if-count-gt0.false)))) c.in-Err.ensures

pub loop-first-preserved-then-count-gt0 : goal.loop-first-preserved-then-count-gt0
loop-first-preserved-then-count-gt0 g c = rw c.split_at.ensures.back (run_more _ _ _ _ _ _ _ _ _ c.loop-first.invariant c.in_ok-count.ensures)

pub loop-first-preserved : goal.loop-first-preserved
loop-first-preserved g c =
    byte-more _ _ _ _ _ _ _ _ _ _
    (rw c.in-Some.ensures.cases.0 at (run_none _ _ _ _ _ _ _ _ _ c.loop-first.invariant c.in_ok-count.ensures (omega (arith, c.if-count-gt0.false)))) c.in_default-byte.ensures

pub returns : goal.returns
returns g c =
    bytes-over g.S.PartSink.took g.S.PartSink.enough c.args.to.now c.loop-first.to (told (telling_of c.args.self.now) c.args.piece.now) (telling_of c.loop-first.self) c.loop-first.left.now c.in_default.ensures.cases
    c.loop-first.invariant
