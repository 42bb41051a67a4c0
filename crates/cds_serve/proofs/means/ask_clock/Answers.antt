-- One call of the outside.
use Rattle.cds_outside.specs.Asked.{ForClock}
use Rattle.cds_outside.specs.Told.{OutsideTold}
use Rattle.cds_serve.proofs.Lives.{asks-one, same-fact}
use Rattle.cds_serve.proofs.means.ask_clock.Goals as goal

pub returns-clause-asks : goal.returns-clause-asks
returns-clause-asks g c =
    let old : OutsideTold = g.O.Outside.told c.args.outside.now in
    let new : OutsideTold = g.O.Outside.told c.clock.new.self in
    let one = c.clock.ensures in
    asks-one (ForClock) old new one.asked one.never_falls one.others_stay c.clock.result c.given.result
    c.given.ensures.ok c.given.ensures.err one.rose

pub returns-clause-fresh : goal.returns-clause-fresh
returns-clause-fresh g c =
    same-fact c.clock.result c.given.result _ c.given.ensures.ok c.given.ensures.err c.clock.ensures.fresh
