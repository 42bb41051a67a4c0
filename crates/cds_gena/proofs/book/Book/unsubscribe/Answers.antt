use Rattle.std.proofs.Common.{sym, subst}
use Rattle.cds_gena.specs.Subscribed.{IsBook, Booked, StandsFor, living_named, without}
use Rattle.cds_gena.proofs.Delivered.{book-filter}
use Rattle.std.proofs.Common.{rules, ◌≡◌, ◌∷◌, Some, IfSome, ap, ◌∙◌}
use Rattle.cds_commands.specs.Commands.{Ends}
use Rattle.cds_gena.proofs.Commands.{booked-end}
use Rattle.cds_gena.proofs.book.Book.unsubscribe.Goals as goal

pub invariant_of-self : goal.invariant_of-self
invariant_of-self c = subst (IsBook c.self.inside.names c.self.inside.granted) (sym c.drop_numbered.ensures) (book-filter c.self.inside.names c.self.inside.granted _ c.self.inside.living.entries c.self.invariant)

pub returns-in-Some-clause-stands : goal.returns-in-Some-clause-stands
returns-in-Some-clause-stands c start commands stands =
    let named : Some c.in-Some.number ≡ living_named c.args.now c.args.sid.0 c.args.self.now = search rules in
    let step : Booked = record { names = c.self.inside.names; wrap = c.self.inside.wrap; subscribed = record { granted = c.self.inside.granted; living = c.drop_numbered.new.living.entries } } in
    subst (λ o. IfSome o (λ number. StandsFor step start (Ends c.args.now number ∷ commands))) named (record {
      names = ap (λ (z : Booked). z.names) c.self.view_is ∙ stands.names;
      wrap = ap (λ (z : Booked). z.wrap) c.self.view_is ∙ stands.wrap;
      wide = stands.wide;
      subscribed = (λ i. record { granted = c.self.inside.granted; living = c.drop_numbered.ensures i })
          ∙ (ap (λ (z : Booked). without c.in-Some.number z.subscribed) c.self.view_is
          ∙ (ap (without c.in-Some.number) stands.subscribed ∙ sym (booked-end start commands c.args.now c.in-Some.number)));
    })
