use Rattle.std.proofs.Common.{◌≡◌, ◌<◌, sym, subst, map, filter, ap, ◌∙◌, arith}
use Rattle.std.specs.List.{AllByRecursion}
use Rattle.cds_gena.specs.Subscribed.{IsBook, IsDelivered, address_of, alive, raised, Booked, expired, notified}
use Rattle.cds_gena.proofs.Delivered.{addresses-go, book-raised}
use Rattle.cds_gena.proofs.Commands.{booked-released}
use Rattle.cds_gena.proofs.book.Book.next_notes.Goals as goal

pub invariant_of-self : goal.invariant_of-self
invariant_of-self c =
    subst (IsBook c.self.inside.names c.self.inside.granted) (sym (c.raise.ensures ∙ ap (map (raised c.self.inside.wrap)) c.drop_past.ensures))
    (book-raised c.self.inside.names c.self.inside.wrap c.self.inside.granted c.args.now c.self.inside.living.entries c.self.invariant)

pub returns-clause-stands : goal.returns-clause-stands
returns-clause-stands c start commands stands is =
    let least = stands.wide in
    let some : 0 < start.wrap = omega (arith, least) in record {
      names = ap (λ (z : Booked). z.names) c.self.view_is ∙ stands.names;
      wrap = ap (λ (z : Booked). z.wrap) c.self.view_is ∙ stands.wrap;
      wide = stands.wide;
      subscribed = (λ i. record { granted = c.self.inside.granted; living = (c.raise.ensures ∙ ap (map (raised c.self.inside.wrap)) c.drop_past.ensures) i })
          ∙ (ap (λ (z : Booked). notified z.wrap (expired c.args.now z.subscribed)) c.self.view_is
          ∙ ((λ i. notified (stands.wrap i) (expired c.args.now (stands.subscribed i)))
          ∙ sym (booked-released start commands c.args.now some is)));
    }

pub returns-clause-delivered : goal.returns-clause-delivered
returns-clause-delivered c =
    subst (λ (z : Booked). AllByRecursion IsDelivered (map (address_of z.names) (alive c.args.now z.subscribed.living))) c.self.view_is
    (addresses-go c.self.inside.names c.args.now c.self.inside.living.entries c.self.invariant.delivered)
