-- The library, the scan and the note are taken one after the other.
use Rattle.std.proofs.Common.{◌≡◌, ◌++◌, ℕ, Ok, Err, length, subst, rules}
use Rattle.std.proofs.lemmas.Result.{err_from_is_err_and}
use Rattle.cds_generate.specs.Generated.{library_text, scan_text, note_text, load_reads}
use Rattle.cds_generate.specs.Writing.{Took}
use Rattle.cds_generate.proofs.Pieces.{took_then, took_stops}
use Rattle.cds_generate.proofs.writing.write_scanned.Goals as goal

pub returns-in_err-write_library : goal.returns-in_err-write_library
returns-in_err-write_library g c =
    let error = err_from_is_err_and c.from_residual.result c.from_residual.ensures.1 in
    rw (error.1, error.2)
    (took_stops c.in_err-write_library.field-0.0 (g.K.Sink.told c.args.sink.now) (g.K.Sink.told c.write_library.new.sink) ((library_text c.args.tracks.now) ++ (scan_text c.args.step.number)) (note_text (load_reads (length c.args.tracks.now)) c.args.step.kind c.args.step.note) (took_stops c.in_err-write_library.field-0.0 (g.K.Sink.told c.args.sink.now) (g.K.Sink.told c.write_library.new.sink) (library_text c.args.tracks.now) (scan_text c.args.step.number) c.in_err-write_library.ensures))

pub returns-in_err-write_text : goal.returns-in_err-write_text
returns-in_err-write_text g c =
    let error = err_from_is_err_and c.from_residual-in_err-write_text.result c.from_residual-in_err-write_text.ensures.1 in
    rw (error.1, error.2)
    (took_stops c.in_err-write_text.field-0.0 (g.K.Sink.told c.args.sink.now) (g.K.Sink.told c.write_text.new.sink) ((library_text c.args.tracks.now) ++ (scan_text c.args.step.number)) (note_text (load_reads (length c.args.tracks.now)) c.args.step.kind c.args.step.note) (took_then (Err c.in_err-write_text.field-0.0) (g.K.Sink.told c.args.sink.now) (g.K.Sink.told c.write_library.new.sink) (g.K.Sink.told c.write_text.new.sink) (library_text c.args.tracks.now) (scan_text c.args.step.number) c.in_ok-write_library.ensures (c.in_err-write_text.ensures (scan_text c.args.step.number) c.scan_text.ensures)))

pub returns : goal.returns
returns g c =
    (took_then c.write_note.result (g.K.Sink.told c.args.sink.now) (g.K.Sink.told c.write_text.new.sink) (g.K.Sink.told c.write_note.new.sink) ((library_text c.args.tracks.now) ++ (scan_text c.args.step.number)) (note_text (load_reads (length c.args.tracks.now)) c.args.step.kind c.args.step.note) (took_then (Ok tt) (g.K.Sink.told c.args.sink.now) (g.K.Sink.told c.write_library.new.sink) (g.K.Sink.told c.write_text.new.sink) (library_text c.args.tracks.now) (scan_text c.args.step.number) c.in_ok-write_library.ensures (c.in_ok-write_text.ensures (scan_text c.args.step.number) c.scan_text.ensures)) (let reads : c.load_reads-reads.result ≡ load_reads (length c.args.tracks.now) = search rules in
    subst (λ (k : ℕ). Took c.write_note.result (g.K.Sink.told c.write_text.new.sink) (note_text k c.args.step.kind c.args.step.note) (g.K.Sink.told c.write_note.new.sink)) reads c.write_note.ensures))
