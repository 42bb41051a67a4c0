-- So far each track is present, in version 0.
use Rattle.std.proofs.Common.{◌≡◌}
use Rattle.std.specs.Prelude.{replicate}
use Rattle.cds_generate.specs.Library.{first_track}
use Rattle.cds_generate.proofs.library.Library.new.Given as goal

abbrev pub invariant-loop : goal.invariant-loop
invariant-loop l = l.tracks.items ≡ replicate l.counter first_track
