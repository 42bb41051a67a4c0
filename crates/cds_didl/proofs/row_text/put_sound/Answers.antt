use Rattle.std.proofs.Common.{codes}
use Rattle.cds_didl.specs.Fragment.{attribute_wanted, sound_wanted}
use Rattle.cds_didl.proofs.Joined.{two}
use Rattle.cds_didl.proofs.row_text.put_sound.Goals as goal

pub returns : goal.returns
unfolding sound_wanted
returns c =
    let f = c.args.filter.now in
    let track = c.args.track.now in
    two _ _ _ (attribute_wanted f (codes "res@bitsPerSample") (codes "bitsPerSample") track.bits) (attribute_wanted f (codes "res@nrAudioChannels") (codes "nrAudioChannels") track.channels)
    c.in_ok-put_byte_wanted.ensures c.in_ok-put_byte_wanted-2.ensures
