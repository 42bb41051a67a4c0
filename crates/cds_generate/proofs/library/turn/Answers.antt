-- The track that was read is the one at the place.
use Rattle.std.proofs.Common.{ap, sym, ◌∙◌, set}
use Rattle.cds_generate.specs.declared.library.Track.{Track}
use Rattle.cds_generate.specs.Library.{turned}
use Rattle.cds_generate.proofs.Tracks.{place-set}
use Rattle.cds_generate.proofs.library.turn.Goals as goal

pub returns : goal.returns
returns c =
    ap (λ (track : Track). set c.args.tracks.now.items c.args.at (turned track)) c.index-track.ensures
    ∙ sym (place-set c.args.at turned c.args.tracks.now.items c.index-track.result.now c.requires)
