use Rattle.std.proofs.Common.{◌≡◌, ℕ, List, Ok, Err, length, slice_get, subst, arith, rules}
use Rattle.std.proofs.lemmas.Result.{err_from_is_err_and}
use Rattle.cds_generate.specs.Generated.{folders_of, present_lines}
use Rattle.cds_generate.specs.Writing.{Took}
use Rattle.cds_generate.proofs.Pieces.{loop_none, loop_more, loop_stops, loop_all}
use Rattle.cds_generate.proofs.writing.write_tracks.Goals as goal

pub loop-number-init : goal.loop-number-init
loop-number-init g c = loop_none (g.K.Sink.told c.args.sink.now) (λ (n : ℕ). present_lines (folders_of (length c.args.tracks.now)) n (slice_get c.args.tracks.now n))

pub loop-number-preserved : goal.loop-number-preserved
loop-number-preserved g c =
    let folders : c.folders_of-folders.result ≡ folders_of (length c.args.tracks.now) = search rules in
    let text : present_lines c.folders_of-folders.result c.loop-number.number c.track_at-track.result ≡ present_lines (folders_of (length c.args.tracks.now)) c.loop-number.number (slice_get c.args.tracks.now c.loop-number.number) =
    λ i. present_lines (folders i) c.loop-number.number (c.track_at-track.ensures i) in
    loop_more c.loop-number.number (λ (n : ℕ). present_lines (folders_of (length c.args.tracks.now)) n (slice_get c.args.tracks.now n))
    (g.K.Sink.told c.args.sink.now) (g.K.Sink.told c.loop-number.sink) (g.K.Sink.told c.write_track.new.sink) c.loop-number.invariant
    (subst (λ (t : List ℕ). Took (Ok tt) (g.K.Sink.told c.loop-number.sink) t (g.K.Sink.told c.write_track.new.sink)) text c.in_ok-write_track.ensures)

pub returns-in_err-write_track : goal.returns-in_err-write_track
returns-in_err-write_track g c =
    let error = err_from_is_err_and c.from_residual.result c.from_residual.ensures.1 in
    let folders : c.folders_of-folders.result ≡ folders_of (length c.args.tracks.now) = search rules in
    let text : present_lines c.folders_of-folders.result c.loop-number.number c.track_at-track.result ≡ present_lines (folders_of (length c.args.tracks.now)) c.loop-number.number (slice_get c.args.tracks.now c.loop-number.number) =
    λ i. present_lines (folders i) c.loop-number.number (c.track_at-track.ensures i) in
    rw (error.1, error.2)
    (loop_stops c.in_err-write_track.field-0.0 c.loop-number.number (length c.args.tracks.now)
    (λ (n : ℕ). present_lines (folders_of (length c.args.tracks.now)) n (slice_get c.args.tracks.now n))
    (g.K.Sink.told c.args.sink.now) (g.K.Sink.told c.loop-number.sink) (g.K.Sink.told c.write_track.new.sink)
    (omega arith) c.loop-number.invariant
    (subst (λ (t : List ℕ). Took (Err c.in_err-write_track.field-0.0) (g.K.Sink.told c.loop-number.sink) t (g.K.Sink.told c.write_track.new.sink)) text c.in_err-write_track.ensures))

pub returns : goal.returns
returns g c =
    loop_all c.loop-number.number (length c.args.tracks.now) (λ (n : ℕ). present_lines (folders_of (length c.args.tracks.now)) n (slice_get c.args.tracks.now n))
    (g.K.Sink.told c.args.sink.now) (g.K.Sink.told c.loop-number.sink) (omega arith) (omega arith) c.loop-number.invariant
