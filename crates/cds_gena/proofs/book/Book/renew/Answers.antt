use Rattle.std.proofs.Common.{sym, subst}
use Rattle.cds_gena.specs.Subscribed.{IsBook, Booked, StandsFor, living_named, renewed}
use Rattle.cds_gena.proofs.Delivered.{book-until}
use Rattle.std.proofs.Common.{rules, ◌≡◌, ◌∷◌, Some, IfSome, ap, ◌∙◌}
use Rattle.cds_commands.specs.Commands.{Renews}
use Rattle.cds_commands.specs.Subscriptions.{end_after}
use Rattle.cds_gena.proofs.Commands.{booked-renewal}
use Rattle.cds_gena.proofs.book.Book.renew.Goals as goal

pub invariant_of-self : goal.invariant_of-self
invariant_of-self c = subst (IsBook c.self.inside.names c.self.inside.granted) (sym c.put_off.ensures) (book-until c.self.inside.names c.self.inside.granted _ _ c.self.inside.living.entries c.self.invariant)

pub returns-in-Some-clause-stands : goal.returns-in-Some-clause-stands
returns-in-Some-clause-stands c start commands stands =
    let named : Some c.in-Some.number ≡ living_named c.args.now c.args.sid.0 c.args.self.now = search rules in
    let end = c.end_after.ensures in
    let step : Booked = record { names = c.self.inside.names; wrap = c.self.inside.wrap; subscribed = record { granted = c.self.inside.granted; living = c.put_off.new.living.entries } } in
    subst (λ o. IfSome o (λ number. StandsFor step start (Renews c.args.now number c.args.seconds ∷ commands))) named (record {
      names = ap (λ (z : Booked). z.names) c.self.view_is ∙ stands.names;
      wrap = ap (λ (z : Booked). z.wrap) c.self.view_is ∙ stands.wrap;
      wide = stands.wide;
      subscribed = (λ i. record { granted = c.self.inside.granted; living = c.put_off.ensures i })
          ∙ (ap (λ (z : Booked). renewed c.in-Some.number c.end_after.result z.subscribed) c.self.view_is
          ∙ (ap (λ e. renewed c.in-Some.number e c.args.self.now.subscribed) end
          ∙ (ap (renewed c.in-Some.number (end_after c.args.now c.args.seconds)) stands.subscribed ∙ sym (booked-renewal start commands c.args.now c.in-Some.number c.args.seconds))));
    })
