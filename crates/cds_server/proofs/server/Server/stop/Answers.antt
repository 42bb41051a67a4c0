use Rattle.std.proofs.Common.{sym, subst}
use Rattle.cds_server.specs.Serving.{Serving, StandsFor}
use Rattle.cds_server.proofs.Stands.{stop-serving, stop-stands}
use Rattle.cds_server.proofs.server.Server.stop.Goals as goal

pub invariant_of-self : goal.invariant_of-self
invariant_of-self c =
    let inside : Serving = record { store = c.self.inside.store; book = c.self.inside.book; moderated = c.self.inside.moderator.moderated; stopped = c.self.inside.stopped } in
    stop-serving inside c.self.invariant

pub returns-clause-stands : goal.returns-clause-stands
returns-clause-stands c start commands stands =
    let inside : Serving = record { store = c.self.inside.store; book = c.self.inside.book; moderated = c.self.inside.moderator.moderated; stopped = c.self.inside.stopped } in
    stop-stands inside start commands (subst (λ (z : Serving). StandsFor z start commands) (sym c.self.view_is) stands)
