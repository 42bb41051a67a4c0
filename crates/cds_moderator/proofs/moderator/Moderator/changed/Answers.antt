use Rattle.std.proofs.Common.{rules, ◌≡◌, ◌∷◌, [], ◌++◌, Some, sym, ap, ◌∙◌, subst}
use Rattle.cds_moderator.specs.Moderating.{AreSpans, EndsAt, Moderating, with_span}
use Rattle.cds_moderator.proofs.Spans.{spans-more}
use Rattle.cds_moderator.proofs.Moderated.{changed}
use Rattle.cds_moderator.proofs.moderator.Moderator.changed.Goals as goal

pub invariant_of-self : goal.invariant_of-self
invariant_of-self c =
    let items : c.push.new.self.items ≡ c.self.inside.pending.items ++ c.args.span ∷ [] = search rules in
    subst (λ l. AreSpans l × EndsAt (Some c.args.span.to) l) (sym items)
    (spans-more c.self.inside.end c.self.inside.pending.items c.args.span c.self.invariant.0 c.self.invariant.1 (search rules) c.requires.changes.0 c.requires.changes.1)

pub returns-clause-stands : goal.returns-clause-stands
returns-clause-stands c first commands library before is =
    let items : c.push.new.self.items ≡ c.self.inside.pending.items ++ c.args.span ∷ [] = search rules in
    (λ i. record { pending = items i; moment = c.self.inside.moment; end = Some c.args.span.to })
    ∙ (ap (λ (z : Moderating). with_span c.args.span z.moderated) c.self.view_is ∙ (ap (with_span c.args.span) before ∙ changed first library commands c.args.span c.requires.changes.0 is))
