use Rattle.std.proofs.Common.{IsAscii, IsSome, refl, rules, sym, subst, arith, ◌+◌, ◌<◌}
use Rattle.cds_gena.specs.Asked.{url_in}
use Rattle.cds_gena.specs.Subscribed.{IsBook, Booked, Subscribed, with_grant}
use Rattle.cds_gena.proofs.Delivered.{book-more, own-url}
use Rattle.cds_gena.proofs.Granted.{none-numbered}
use Rattle.std.proofs.Common.{◌≡◌, ap, ◌∙◌}
use Rattle.url.specs.Parts.{serialize}
use Rattle.cds_gena.proofs.Commands.{booked-grant}
use Rattle.cds_gena.proofs.book.Book.subscribe.Goals as goal

pub add-requires : goal.add-requires
add-requires c = record { new = none-numbered c.self.inside.granted (c.self.inside.granted + 1) c.self.inside.living.entries (omega arith) c.self.invariant.among }

pub invariant_of-self-2 : goal.invariant_of-self-2
invariant_of-self-2 c =
    let own = own-url c.args.callback.now c.as_str.ensures.valid (subst IsAscii c.as_str.ensures.value c.as_str.ensures.ascii) c.requires.delivered in
    let goes : IsSome (url_in c.in_ok-callback.callback) = subst (λ t. IsSome (url_in t)) (sym (c.in_ok-callback.ensures ∙ c.as_str.ensures.value)) (subst IsSome (sym own) refl) in
    subst (IsBook c.self.inside.names (c.self.inside.granted + 1)) (sym c.in_ok-add.ensures.ok)
    (book-more c.self.inside.names c.self.inside.granted _ c.self.inside.living.entries goes c.self.invariant)

pub returns-clause-stands : goal.returns-clause-stands
returns-clause-stands c start commands stands =
    let now : Subscribed = record { granted = c.self.inside.granted + 1; living = c.add.new.living.entries } in
    let step : now ≡ with_grant c.args.now (serialize c.args.callback.now) c.args.seconds c.args.self.now.subscribed = search rules in
    let names = ap (λ (z : Booked). z.names) c.self.view_is ∙ stands.names in
    let wrap : c.self.inside.wrap ≡ start.wrap = ap (λ (z : Booked). z.wrap) c.self.view_is ∙ stands.wrap in
    let least = stands.wide in
    let some : 0 < start.wrap = omega (arith, least) in
    let many = ap (λ (z : Booked). z.subscribed.granted) c.self.view_is ∙ ap (λ (s : Subscribed). s.granted) stands.subscribed in
    let number = c.from.ensures in (
      omega (arith, names, many, number),
      record {
        names = names;
        wrap = wrap;
        wide = stands.wide;
        subscribed = step ∙ (ap (with_grant c.args.now (serialize c.args.callback.now) c.args.seconds) stands.subscribed
            ∙ sym (booked-grant start commands c.args.now (serialize c.args.callback.now) c.args.seconds some));
      },
    )
