use Rattle.std.proofs.Common.{ap}
use Rattle.cds_server.specs.declared.made.Answered.{Answered}
use Rattle.cds_server.proofs.Makes.{action-fits, action-replied}
use Rattle.cds_server.proofs.server.Server.answer.Goals as goal

pub returns-in_ok-made-in-Action-clause-replied : goal.returns-in_ok-made-in-Action-clause-replied
returns-in_ok-made-in-Action-clause-replied c start commands stands =
    action-replied c.args.self.now c.args.asking.now _ c.in-Action.asked _ _ c.in-Action.is c.in_ok-made-in-Action.ensures
    (ap (λ (a : Answered). a.made) c.unaccepted-in-Action.ensures) start commands c.args.now stands

pub returns-in_ok-made-in-Action-clause-fits : goal.returns-in_ok-made-in-Action-clause-fits
returns-in_ok-made-in-Action-clause-fits c =
    action-fits c.args.self.now c.args.asking.now _ c.in-Action.asked _ _ c.in-Action.is c.in_ok-made-in-Action.ensures
    (ap (λ (a : Answered). a.made) c.unaccepted-in-Action.ensures)
