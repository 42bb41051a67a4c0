use Rattle.std.proofs.Common.{sym, subst}
use Rattle.cds_gena.specs.Subscribed.{IsBook, Booked, expired}
use Rattle.cds_gena.proofs.Delivered.{book-filter}
use Rattle.std.proofs.Common.{ap, ◌∙◌}
use Rattle.cds_gena.proofs.Commands.{booked-silent}
use Rattle.cds_gena.proofs.book.Book.expire.Goals as goal

pub invariant_of-self : goal.invariant_of-self
invariant_of-self c = subst (IsBook c.self.inside.names c.self.inside.granted) (sym c.drop_past.ensures) (book-filter c.self.inside.names c.self.inside.granted _ c.self.inside.living.entries c.self.invariant)

pub returns-clause-stands : goal.returns-clause-stands
returns-clause-stands c start commands stands none = record {
  names = ap (λ (z : Booked). z.names) c.self.view_is ∙ stands.names;
  wrap = ap (λ (z : Booked). z.wrap) c.self.view_is ∙ stands.wrap;
  wide = stands.wide;
  subscribed = (λ i. record { granted = c.self.inside.granted; living = c.drop_past.ensures i })
      ∙ (ap (λ (z : Booked). expired c.args.now z.subscribed) c.self.view_is ∙ (ap (expired c.args.now) stands.subscribed ∙ sym (booked-silent start commands c.args.now none)));
}
