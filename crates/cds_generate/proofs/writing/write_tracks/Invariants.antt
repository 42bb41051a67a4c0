-- So far the tracks up to here were written.
use Rattle.std.proofs.Common.{Ok, ℕ, length, slice_get}
use Rattle.cds_generate.specs.Generated.{folders_of, present_lines, texts_below}
use Rattle.cds_generate.specs.Writing.{Took}
use Rattle.cds_generate.proofs.writing.write_tracks.Given as goal

abbrev pub invariant-loop-number : goal.invariant-loop-number
invariant-loop-number g l = Took (Ok tt) (g.K.Sink.told l.initial.sink) (texts_below l.number (λ (n : ℕ). present_lines (folders_of (length l.tracks)) n (slice_get l.tracks n))) (g.K.Sink.told l.sink)
