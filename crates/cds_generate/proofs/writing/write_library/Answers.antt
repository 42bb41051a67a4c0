-- The folders and the tracks are taken one after the other.
use Rattle.std.proofs.Common.{◌≡◌, ℕ, Ok, Err, length, subst, rules}
use Rattle.std.proofs.lemmas.Result.{err_from_is_err_and}
use Rattle.cds_generate.specs.Generated.{folders_of, folder_line, texts_below, tracks_text}
use Rattle.cds_generate.specs.Writing.{Took}
use Rattle.cds_generate.proofs.Pieces.{took_then, took_stops}
use Rattle.cds_generate.proofs.writing.write_library.Goals as goal

pub returns-in_err-write_folders : goal.returns-in_err-write_folders
returns-in_err-write_folders g c =
    let error = err_from_is_err_and c.from_residual.result c.from_residual.ensures.1 in
    rw (error.1, error.2)
    (took_stops c.in_err-write_folders.field-0.0 (g.K.Sink.told c.args.sink.now) (g.K.Sink.told c.write_folders.new.sink) (texts_below (folders_of (length c.args.tracks.now)) folder_line) (tracks_text c.args.tracks.now) (let folders : c.folders_of.result ≡ folders_of (length c.args.tracks.now) = search rules in subst (λ (k : ℕ). Took (Err c.in_err-write_folders.field-0.0) (g.K.Sink.told c.args.sink.now) (texts_below k folder_line) (g.K.Sink.told c.write_folders.new.sink)) folders c.in_err-write_folders.ensures))

pub returns : goal.returns
returns g c =
    (took_then c.write_tracks.result (g.K.Sink.told c.args.sink.now) (g.K.Sink.told c.write_folders.new.sink) (g.K.Sink.told c.write_tracks.new.sink) (texts_below (folders_of (length c.args.tracks.now)) folder_line) (tracks_text c.args.tracks.now) (let folders : c.folders_of.result ≡ folders_of (length c.args.tracks.now) = search rules in subst (λ (k : ℕ). Took (Ok tt) (g.K.Sink.told c.args.sink.now) (texts_below k folder_line) (g.K.Sink.told c.write_folders.new.sink)) folders c.in_ok-write_folders.ensures) c.write_tracks.ensures)
