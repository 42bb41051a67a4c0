use Rattle.std.proofs.Common.{codes}
use Rattle.cds_notify.specs.Propertyset.{named, property}
use Rattle.cds_notify.proofs.Pieces.{three}
use Rattle.cds_notify.proofs.propertyset.put_property.Goals as goal

pub returns : goal.returns
unfolding property
returns c =
    three c.args.out.now.items (codes "<e:property><") (named c.args.name.now c.args.text.now) (codes "></e:property>") _ _ _
    c.in_ok-put.ensures c.in_ok-put_named.ensures c.in_ok-put-2.ensures
