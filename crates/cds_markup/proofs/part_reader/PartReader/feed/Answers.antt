-- What a piece is told as, behind the bytes that came.
use Rattle.std.proofs.Common.{Ok, Err, sym, ap, ◌∙◌}
use Rattle.cds_markup.proofs.Terms.{TakesAll as Takes, telling_of, telling_in, TakesPiece}
use Rattle.cds_markup.proofs.Readings.{err_is, feed_taken}
use Rattle.cds_markup.proofs.part_reader.PartReader.feed.Goals as goal

pub returns-in_err-piece-clause-takes : goal.returns-in_err-piece-clause-takes
returns-in_err-piece-clause-takes g c = λ came given stands.
    let e = c.in_err-piece.field-0.0 in
    let view = ap telling_in (sym c.in-Some.is ∙ c.take.ensures.value) ∙ c.self.view_is in
    err_is (λ r. TakesPiece (Takes g.S.PartSink.took g.S.PartSink.enough) g.S.PartSink.enough came given c.args.piece.now r c.args.to.now c.piece.new.to (telling_in c.take.new.self)) c.from_residual.result e c.from_residual.ensures.1
    (rw c.take.ensures.after (feed_taken (Takes g.S.PartSink.took g.S.PartSink.enough) g.S.PartSink.enough c.args.self.now (telling_of c.in-Some.spot) (telling_of c.piece.new.self) c.args.piece.now (Err e) c.args.to.now c.piece.new.to view c.in_err-piece.ensures came given stands))

pub returns-clause-takes : goal.returns-clause-takes
returns-clause-takes g c = λ came given stands.
    let view = ap telling_in (sym c.in-Some.is ∙ c.take.ensures.value) ∙ c.self.view_is in
    rw (c.replace.ensures.after, c.unless.ensures, c.has_enough.ensures) (feed_taken (Takes g.S.PartSink.took g.S.PartSink.enough) g.S.PartSink.enough c.args.self.now (telling_of c.in-Some.spot) (telling_of c.piece.new.self) c.args.piece.now (Ok tt) c.args.to.now c.piece.new.to view c.in_ok-piece.ensures came given stands)
