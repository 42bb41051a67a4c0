-- One call of the outside.
use Rattle.cds_outside.specs.Asked.{ForFolder}
use Rattle.cds_outside.specs.Told.{OutsideTold}
use Rattle.cds_serve.proofs.Lives.{asks-one}
use Rattle.cds_serve.proofs.means.ask_folder.Goals as goal

pub returns : goal.returns
returns g c =
    let old : OutsideTold = g.O.Outside.told c.args.outside.now in
    let new : OutsideTold = g.O.Outside.told c.folder.new.self in
    let one = c.folder.ensures in
    asks-one (ForFolder c.args.path.now) old new one.asked one.never_falls one.others_stay c.folder.result c.given.result
    c.given.ensures.ok c.given.ensures.err one.rose
