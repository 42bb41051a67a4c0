-- The subscription and the reads are taken one after the other.
use Rattle.std.proofs.Common.{◌+◌, ◌++◌, codes}
use Rattle.std.proofs.lemmas.Result.{err_from_is_err_and}
use Rattle.cds_generate.specs.Generated.{deliver_line, reads_text}
use Rattle.cds_generate.proofs.Pieces.{took_then, took_stops}
use Rattle.cds_generate.proofs.writing.write_renewed.Goals as goal

pub returns-in_err-write_text : goal.returns-in_err-write_text
returns-in_err-write_text g c =
    let error = err_from_is_err_and c.from_residual.result c.from_residual.ensures.1 in
    rw (error.1, error.2)
    (took_stops c.in_err-write_text.field-0.0 (g.K.Sink.told c.args.sink.now) (g.K.Sink.told c.write_text.new.sink) (codes "unsubscribe\nsubscribe\naccept\n" ++ deliver_line (c.args.note + 1)) (reads_text c.args.reads) (c.in_err-write_text.ensures (codes "unsubscribe\nsubscribe\naccept\n" ++ deliver_line (c.args.note + 1)) c.renewed_text.ensures))

pub returns : goal.returns
returns g c =
    (took_then c.write_reads.result (g.K.Sink.told c.args.sink.now) (g.K.Sink.told c.write_text.new.sink) (g.K.Sink.told c.write_reads.new.sink) (codes "unsubscribe\nsubscribe\naccept\n" ++ deliver_line (c.args.note + 1)) (reads_text c.args.reads) (c.in_ok-write_text.ensures (codes "unsubscribe\nsubscribe\naccept\n" ++ deliver_line (c.args.note + 1)) c.renewed_text.ensures) c.write_reads.ensures)
