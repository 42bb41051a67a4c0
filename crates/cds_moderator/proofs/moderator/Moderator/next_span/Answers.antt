use Rattle.std.proofs.Common.{rules, ◌≡◌, ap, ◌∙◌}
use Rattle.cds_moderator.specs.Moderating.{next_span}
use Rattle.cds_moderator.proofs.Spans.{joined-some}
use Rattle.cds_moderator.proofs.Moderated.{next-is}
use Rattle.cds_moderator.proofs.moderator.Moderator.next_span.Goals as goal

pub returns-then-due-clause-stands : goal.returns-then-due-clause-stands
returns-then-due-clause-stands c first commands stands =
    let step : c.join.result ≡ next_span c.args.now c.args.self.now.moderated = search rules in step ∙ (ap (next_span c.args.now) stands ∙ next-is first c.args.now commands)

pub returns-then-due-clause-size : goal.returns-then-due-clause-size
returns-then-due-clause-size c = joined-some c.self.inside.pending.items c.join.result c.self.invariant.0 (search rules)
