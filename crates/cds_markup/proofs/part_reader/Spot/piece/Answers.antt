-- What is open is given behind the bytes.
use Rattle.std.proofs.Common.{Ok}
use Rattle.cds_markup.proofs.Terms.{TakesAll as Takes, telling_of, told, told_piece, last_parts, shown, ToldSo}
use Rattle.cds_markup.proofs.Readings.{err_is}
use Rattle.cds_markup.proofs.ToldBytes.{on-so, on-err}
use Rattle.cds_markup.proofs.part_reader.Spot.piece.Goals as goal

pub returns-in_err-pass : goal.returns-in_err-pass
returns-in_err-pass g c =
    let p = telling_of c.args.self.now in
    let q = telling_of c.pass.new.self in
    err_is (λ r. ToldSo (Takes g.S.PartSink.took g.S.PartSink.enough) g.S.PartSink.enough c.args.to.now (told_piece p c.args.piece.now) r c.pass.new.to q) c.from_residual.result c.in_err-pass.field-0.0 c.from_residual.ensures.1
    (on-err g.S.PartSink.took g.S.PartSink.enough c.args.to.now c.pass.new.to (told p c.args.piece.now) (λ x. Ok (last_parts x, shown x)) q q c.in_err-pass.field-0.0 c.in_err-pass.ensures)

pub returns : goal.returns
returns g c =
    on-so g.S.PartSink.took g.S.PartSink.enough c.args.to.now c.pass.new.to c.show.new.to (told (telling_of c.args.self.now) c.args.piece.now) (λ x. Ok (last_parts x, shown x))
    (telling_of c.pass.new.self) (telling_of c.show.new.self) c.show.result c.in_ok-pass.ensures c.show.ensures
