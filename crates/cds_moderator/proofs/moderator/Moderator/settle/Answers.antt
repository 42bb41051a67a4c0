use Rattle.std.proofs.Common.{sym, subst}
use Rattle.cds_moderator.specs.Moderating.{AreSpans, EndsAt}
use Rattle.cds_moderator.proofs.Spans.{left-spans}
use Rattle.cds_moderator.proofs.moderator.Moderator.settle.Goals as goal

pub invariant_of-self : goal.invariant_of-self
invariant_of-self c =
    subst (λ l. AreSpans l × EndsAt c.self.inside.end l) (sym c.drop_released.ensures)
    (left-spans c.self.inside.end _ c.self.inside.pending.items c.self.invariant.0 c.self.invariant.1)
