-- The late note, the reads and the ask are taken one after the other.
use Rattle.std.proofs.Common.{◌++◌, Ok, Err}
use Rattle.std.proofs.lemmas.Result.{err_from_is_err_and}
use Rattle.cds_generate.specs.Generated.{late_text, reads_text, ask_text}
use Rattle.cds_generate.proofs.Pieces.{took_then, took_stops}
use Rattle.cds_generate.proofs.writing.write_ending.Goals as goal

pub returns-in_err-write_late : goal.returns-in_err-write_late
returns-in_err-write_late g c =
    let error = err_from_is_err_and c.from_residual.result c.from_residual.ensures.1 in
    rw (error.1, error.2)
    (took_stops c.in_err-write_late.field-0.0 (g.K.Sink.told c.args.sink.now) (g.K.Sink.told c.write_late.new.sink) ((late_text c.args.late) ++ (reads_text c.args.reads)) (ask_text c.args.asks) (took_stops c.in_err-write_late.field-0.0 (g.K.Sink.told c.args.sink.now) (g.K.Sink.told c.write_late.new.sink) (late_text c.args.late) (reads_text c.args.reads) c.in_err-write_late.ensures))

pub returns-in_err-write_reads : goal.returns-in_err-write_reads
returns-in_err-write_reads g c =
    let error = err_from_is_err_and c.from_residual-in_err-write_reads.result c.from_residual-in_err-write_reads.ensures.1 in
    rw (error.1, error.2)
    (took_stops c.in_err-write_reads.field-0.0 (g.K.Sink.told c.args.sink.now) (g.K.Sink.told c.write_reads.new.sink) ((late_text c.args.late) ++ (reads_text c.args.reads)) (ask_text c.args.asks) (took_then (Err c.in_err-write_reads.field-0.0) (g.K.Sink.told c.args.sink.now) (g.K.Sink.told c.write_late.new.sink) (g.K.Sink.told c.write_reads.new.sink) (late_text c.args.late) (reads_text c.args.reads) c.in_ok-write_late.ensures c.in_err-write_reads.ensures))

pub returns : goal.returns
returns g c =
    (took_then c.write_ask.result (g.K.Sink.told c.args.sink.now) (g.K.Sink.told c.write_reads.new.sink) (g.K.Sink.told c.write_ask.new.sink) ((late_text c.args.late) ++ (reads_text c.args.reads)) (ask_text c.args.asks) (took_then (Ok tt) (g.K.Sink.told c.args.sink.now) (g.K.Sink.told c.write_late.new.sink) (g.K.Sink.told c.write_reads.new.sink) (late_text c.args.late) (reads_text c.args.reads) c.in_ok-write_late.ensures c.in_ok-write_reads.ensures) c.write_ask.ensures)
