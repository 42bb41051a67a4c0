use Rattle.std.proofs.Common.{sym, subst, ◌∙◌}
use Rattle.cds_server.specs.Serving.{Serving, StandsFor}
use Rattle.cds_server.proofs.Ticked.{no-release, none-due, silent, ticked-serving}
use Rattle.cds_server.proofs.server.Server.tick.Goals as goal

pub invariant_of-self : goal.invariant_of-self
invariant_of-self c =
    let inside : Serving = record { store = c.self.inside.store; book = c.self.inside.book; moderated = c.self.inside.moderator.moderated; stopped = c.self.inside.stopped } in
    let none = sym c.next_span.ensures.step ∙ c.in-None.is in
    let kept = c.self.invariant in
    ticked-serving inside _ c.args.now kept c.expire.ensures.names
    (silent inside kept.start kept.commands c.args.now kept.stands none _
    (c.expire.ensures.stands kept.start kept.commands kept.stands.book (no-release inside kept.start kept.commands c.args.now kept.stands none)))

pub returns-in-None-clause-stands : goal.returns-in-None-clause-stands
returns-in-None-clause-stands c start commands stands =
    let inside : Serving = record { store = c.self.inside.store; book = c.self.inside.book; moderated = c.self.inside.moderator.moderated; stopped = c.self.inside.stopped } in
    let here = subst (λ (z : Serving). StandsFor z start commands) (sym c.self.view_is) stands in
    let none = sym c.next_span.ensures.step ∙ c.in-None.is in
    silent inside start commands c.args.now here none _
    (c.expire.ensures.stands start commands here.book (no-release inside start commands c.args.now here none))

pub returns-in-None-clause-notes : goal.returns-in-None-clause-notes
returns-in-None-clause-notes c start commands stands =
    let inside : Serving = record { store = c.self.inside.store; book = c.self.inside.book; moderated = c.self.inside.moderator.moderated; stopped = c.self.inside.stopped } in
    let here = subst (λ (z : Serving). StandsFor z start commands) (sym c.self.view_is) stands in
    sym (none-due inside start commands c.args.now here (sym c.next_span.ensures.step ∙ c.in-None.is))
