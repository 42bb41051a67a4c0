-- All bytes are one piece, behind which the end comes.
use Rattle.std.proofs.Common.{Ok, Err, refl, sym, subst, ◌∙◌}
use Rattle.cds_markup.proofs.Terms.{TakesAll as Takes, telling_of, told_piece, ToldSo}
use Rattle.cds_markup.specs.GivenParts.{TellsTo}
use Rattle.cds_markup.proofs.Readings.{err_is, all_taken}
use Rattle.cds_markup.proofs.read.give_parts.Goals as goal

pub returns-in_err-piece : goal.returns-in_err-piece
returns-in_err-piece g c =
    let took = g.S.PartSink.took in
    let enough = g.S.PartSink.enough in
    let e = c.in_err-piece.field-0.0 in
    let now = telling_of c.piece.new.self in
    record {
      told = err_is (λ r. TellsTo took enough c.args.bytes.now r c.args.to.now c.piece.new.to) c.from_residual.result e c.from_residual.ensures.1
          (all_taken took enough c.args.bytes.now (Err e) _ c.args.to.now c.piece.new.to now (subst (λ p. ToldSo (Takes took enough) enough c.args.to.now (told_piece p c.args.bytes.now) (Err e) c.piece.new.to now) c.new-spot.ensures c.in_err-piece.ensures) refl);
    }

pub returns-then-has_enough : goal.returns-then-has_enough
returns-then-has_enough g c = record {
  told = rw (sym c.has_enough.ensures ∙ c.if-has_enough.true) at (all_taken g.S.PartSink.took g.S.PartSink.enough c.args.bytes.now (Ok tt) _ c.args.to.now c.piece.new.to (telling_of c.piece.new.self) (rw c.new-spot.ensures at c.in_ok-piece.ensures) refl);
}

pub returns : goal.returns
returns g c = record {
  told = rw (sym c.has_enough.ensures ∙ c.if-has_enough.false) at (all_taken g.S.PartSink.took g.S.PartSink.enough c.args.bytes.now (Ok tt) c.end.result c.args.to.now c.piece.new.to (telling_of c.piece.new.self) (rw c.new-spot.ensures at c.in_ok-piece.ensures) c.end.ensures);
}
