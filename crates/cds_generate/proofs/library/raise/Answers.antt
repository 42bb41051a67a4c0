-- The track that was read is the one at the place.
use Rattle.std.proofs.Common.{◌<◌, ap, sym, subst, ◌∙◌, set, arith}
use Rattle.cds_generate.specs.declared.library.Track.{Track}
use Rattle.cds_generate.specs.Library.{raised}
use Rattle.cds_generate.proofs.Tracks.{below-at, place-set}
use Rattle.cds_generate.proofs.library.raise.Goals as goal

pub overflow_add-track : goal.overflow_add-track
overflow_add-track c =
    let low : c.index-track.result.now.version < 4294967295 =
    subst (λ (track : Track). track.version < 4294967295) (sym c.index-track.ensures)
    (below-at 4294967295 c.args.at c.args.tracks.now.items c.index-track.result.now c.requires.within c.requires.room) in
    omega (arith, low)

pub returns : goal.returns
returns c =
    ap (λ (track : Track). set c.args.tracks.now.items c.args.at (raised track)) c.index-track.ensures
    ∙ sym (place-set c.args.at raised c.args.tracks.now.items c.index-track.result.now c.requires.within)
