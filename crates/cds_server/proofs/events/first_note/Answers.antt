use Rattle.std.proofs.Common.{IsAscii, IsSome, refl, subst, sym, ◌∙◌}
use Rattle.cds_gena.specs.Asked.{url_in}
use Rattle.cds_gena.proofs.Delivered.{own-url}
use Rattle.cds_server.proofs.events.first_note.Goals as goal

pub returns-clause-delivered : goal.returns-clause-delivered
returns-clause-delivered c =
    let own = own-url c.args.callback.now c.as_str.ensures.valid (subst IsAscii c.as_str.ensures.value c.as_str.ensures.ascii) c.requires.delivered in
    subst (λ t. IsSome (url_in t)) (sym (c.in_ok-callback.ensures ∙ c.as_str.ensures.value)) (subst IsSome (sym own) refl)
