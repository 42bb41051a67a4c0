use Rattle.std.proofs.Common.{rules, ◌≡◌, ap, ◌∙◌}
use Rattle.cds_moderator.specs.Moderating.{is_due}
use Rattle.cds_moderator.proofs.Moderated.{due-is}
use Rattle.cds_moderator.proofs.moderator.Moderator.due.Goals as goal

pub returns-clause-stands : goal.returns-clause-stands
returns-clause-stands c first commands stands =
    let step : c.is_due.result ≡ is_due c.args.now c.args.self.now.moderated = search rules in step ∙ (ap (is_due c.args.now) stands ∙ due-is first c.args.now commands)
