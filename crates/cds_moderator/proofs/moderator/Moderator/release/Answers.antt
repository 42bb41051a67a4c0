use Rattle.std.proofs.Common.{Some, ap, ◌∙◌}
use Rattle.cds_moderator.specs.Moderating.{with_release, moderated_by}
use Rattle.cds_moderator.proofs.Moderated.{ticked}
use Rattle.cds_moderator.proofs.moderator.Moderator.release.Goals as goal

pub returns-in-Some-clause-stands : goal.returns-in-Some-clause-stands
returns-in-Some-clause-stands c first commands stands =
    let found = c.in-Some.ensures.stands first commands stands in (
      found,
      c.settle.ensures ∙ (ap (with_release c.args.now (Some c.in-Some.span)) stands ∙ (ap (λ o. with_release c.args.now o (moderated_by first commands)) found ∙ ticked first c.args.now commands)),
    )
