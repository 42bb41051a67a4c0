use Rattle.std.proofs.Common.{codes}
use Rattle.cds_didl.specs.Fragment.{attribute_wanted, duration_wanted, rate_wanted, sound_wanted, resource_attributes_wanted}
use Rattle.cds_didl.proofs.Joined.{five}
use Rattle.cds_didl.proofs.row_text.put_resource_attributes.Goals as goal

pub returns : goal.returns
unfolding resource_attributes_wanted
returns c =
    let f = c.args.filter.now in
    let track = c.args.track.now in
    five _ _ _ _ _ _ (codes " protocolInfo=\"http-get:*:audio/flac:*\"") (attribute_wanted f (codes "res@size") (codes "size") track.size)
    (duration_wanted f track.duration) (rate_wanted f track.rate) (sound_wanted f track)
    c.in_ok-put.ensures.ok c.in_ok-put_attribute_wanted.ensures c.in_ok-put_duration.ensures c.in_ok-put_rate.ensures c.in_ok-put_sound.ensures
