use Rattle.std.proofs.Common.{codes, ◌++◌, ap, ◌∙◌}
use Rattle.std.specs.Fmt.{decimal}
use Rattle.cds_base.specs.Escape.{escaped}
use Rattle.cds_lastchange.specs.Spelled.{spelled}
use Rattle.cds_notify.specs.Propertyset.{pairs_text, property, set_opening}
use Rattle.cds_notify.proofs.Pieces.{five}
use Rattle.cds_notify.proofs.propertyset.propertyset_text.Goals as goal

pub returns : goal.returns
returns c =
    five set_opening (property (codes "SystemUpdateID") (decimal c.args.number)) (property (codes "ContainerUpdateIDs") (pairs_text c.args.containers.now))
    (property (codes "LastChange") (escaped (spelled c.args.events.now))) (codes "</e:propertyset>") _ _ _ _ _
    (c.in_ok-put.ensures ∙ ap (λ t. t ++ set_opening) c.new-text.ensures.items)
    c.in_ok-put_update_id.ensures c.in_ok-put_containers.ensures c.in_ok-put_changes.ensures c.in_ok-put-2.ensures
