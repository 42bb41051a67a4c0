use Rattle.std.proofs.Common.{ℕ, codes, arith}
use Rattle.std.proofs.lemmas.Result.{err_from_is_err_and}
use Rattle.cds_generate.proofs.Pieces.{loop_none, loop_more, loop_stops, loop_all}
use Rattle.cds_generate.proofs.writing.write_reads.Goals as goal

pub reads-init : goal.reads-init
reads-init g c = loop_none (g.K.Sink.told c.args.sink.now) (λ (_ : ℕ). codes "read\n")

pub reads-preserved : goal.reads-preserved
reads-preserved g c =
    loop_more c.reads.counter (λ (_ : ℕ). codes "read\n") (g.K.Sink.told c.args.sink.now) (g.K.Sink.told c.reads.sink) (g.K.Sink.told c.write_piece.new.sink) c.reads.invariant c.in_ok-write_piece.ensures

pub returns-in_err-write_piece : goal.returns-in_err-write_piece
returns-in_err-write_piece g c =
    let error = err_from_is_err_and c.from_residual.result c.from_residual.ensures.1 in
    rw (error.1, error.2)
    (loop_stops c.in_err-write_piece.field-0.0 c.reads.counter c.args.count (λ (_ : ℕ). codes "read\n") (g.K.Sink.told c.args.sink.now) (g.K.Sink.told c.reads.sink) (g.K.Sink.told c.write_piece.new.sink)
    (omega arith) c.reads.invariant c.in_err-write_piece.ensures)

pub returns : goal.returns
returns g c = loop_all c.reads.counter c.args.count (λ (_ : ℕ). codes "read\n") (g.K.Sink.told c.args.sink.now) (g.K.Sink.told c.reads.sink) (omega arith) (omega arith) c.reads.invariant
