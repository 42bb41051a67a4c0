-- One call of the outside.
use Rattle.cds_outside.specs.Asked.{ForLink}
use Rattle.cds_outside.specs.Told.{OutsideTold}
use Rattle.cds_serve.proofs.Lives.{asks-one}
use Rattle.cds_serve.proofs.means.ask_link.Goals as goal

pub returns : goal.returns
returns g c =
    let old : OutsideTold = g.O.Outside.told c.args.outside.now in
    let new : OutsideTold = g.O.Outside.told c.link.new.self in
    let one = c.link.ensures in
    asks-one (ForLink) old new one.asked one.never_falls one.others_stay c.link.result c.given.result
    c.given.ensures.ok c.given.ensures.err one.rose
