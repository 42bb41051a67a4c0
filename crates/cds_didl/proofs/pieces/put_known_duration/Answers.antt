use Rattle.std.proofs.Common.{codes}
use Rattle.cds_object.specs.Fragment.{duration_text, duration_attribute}
use Rattle.cds_didl.proofs.Joined.{three}
use Rattle.cds_didl.proofs.pieces.put_known_duration.Goals as goal

pub returns : goal.returns
unfolding duration_attribute
returns c =
    three _ _ _ _ (codes " duration=\"") (duration_text c.args.milliseconds) (codes "\"")
    c.in_ok-put.ensures.ok c.in_ok-put_duration.ensures c.in_ok-put-2.ensures.ok
