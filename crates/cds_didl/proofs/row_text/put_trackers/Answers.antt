use Rattle.std.proofs.Common.{codes}
use Rattle.cds_didl.specs.Fragment.{number_wanted, trackers_wanted}
use Rattle.cds_didl.proofs.Joined.{three}
use Rattle.cds_didl.proofs.row_text.put_trackers.Goals as goal

pub returns : goal.returns
unfolding trackers_wanted
returns c =
    let f = c.args.filter.now in
    let trackers = c.args.trackers.now in
    three _ _ _ _ (number_wanted f (codes "upnp:objectUpdateID") c.args.object_update) (number_wanted f (codes "upnp:containerUpdateID") trackers.container_update)
    (number_wanted f (codes "upnp:totalDeletedChildCount") trackers.deleted)
    c.in_ok-put_number_wanted.ensures c.in_ok-put_number_wanted-2.ensures c.in_ok-put_number_wanted-3.ensures
