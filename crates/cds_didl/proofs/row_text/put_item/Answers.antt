use Rattle.std.proofs.Common.{codes}
use Rattle.cds_object.specs.Fragment.{item_front}
use Rattle.cds_didl.specs.Fragment.{number_wanted, work_wanted, resource_where, item_wanted}
use Rattle.cds_didl.proofs.Joined.{five}
use Rattle.cds_didl.proofs.row_text.put_item.Goals as goal

pub returns : goal.returns
unfolding item_wanted
returns c =
    let f = c.args.filter.now in
    let row = c.args.row.now in
    let track = c.args.track.now in
    five _ _ _ _ _ _ (item_front row track) (work_wanted f track) (number_wanted f (codes "upnp:objectUpdateID") row.object_update)
    (resource_where f c.args.base.now row.id track) (codes "</item>")
    c.in_ok-put_item_front.ensures c.in_ok-put_work.ensures c.in_ok-put_object_update.ensures c.in_ok-put_resource_wanted.ensures c.in_ok-put.ensures.ok
