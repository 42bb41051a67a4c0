use Rattle.std.proofs.Common.{◌∙◌, sym, subst}
use Rattle.cds_server.specs.Serving.{Serving, StandsFor}
use Rattle.cds_server.proofs.Handled.{settled-accepted, settled-note, settled-replied, settled-same, settled-serving, settled-stands}
use Rattle.cds_server.proofs.server.Server.settle.Goals as goal

pub invariant_of-self : goal.invariant_of-self
invariant_of-self c =
    let inside : Serving = record { store = c.self.inside.store; book = c.self.inside.book; moderated = c.self.inside.moderator.moderated; stopped = c.self.inside.stopped } in
    settled-serving inside c.args.now c.args.request.now.gena c.args.out.now.items _ c.settle.new.book _ c.system_update_id.ensures
    c.settle.result c.settle.ensures.answers c.settle.ensures.stays c.self.invariant

pub returns-clause-replied : goal.returns-clause-replied
returns-clause-replied c start commands stands =
    let inside : Serving = record { store = c.self.inside.store; book = c.self.inside.book; moderated = c.self.inside.moderator.moderated; stopped = c.self.inside.stopped } in
    settled-replied inside c.args.now c.args.request.now.gena c.args.out.now.items _ c.settle.new.book _ c.system_update_id.ensures
    c.settle.result c.settle.ensures.answers start commands (subst (λ (z : Serving). StandsFor z start commands) (sym c.self.view_is) stands)

pub returns-clause-stands : goal.returns-clause-stands
returns-clause-stands c start commands stands =
    let inside : Serving = record { store = c.self.inside.store; book = c.self.inside.book; moderated = c.self.inside.moderator.moderated; stopped = c.self.inside.stopped } in
    settled-stands inside c.args.now c.args.request.now.gena c.args.out.now.items _ c.settle.new.book _ c.system_update_id.ensures
    c.settle.result c.settle.ensures.answers start commands (subst (λ (z : Serving). StandsFor z start commands) (sym c.self.view_is) stands)

pub returns-clause-note : goal.returns-clause-note
returns-clause-note c start commands stands =
    let inside : Serving = record { store = c.self.inside.store; book = c.self.inside.book; moderated = c.self.inside.moderator.moderated; stopped = c.self.inside.stopped } in
    settled-note inside c.args.now c.args.request.now.gena c.args.out.now.items _ c.settle.new.book _ c.system_update_id.ensures
    c.settle.result c.settle.ensures.answers start commands (subst (λ (z : Serving). StandsFor z start commands) (sym c.self.view_is) stands)

pub returns-clause-accepted : goal.returns-clause-accepted
returns-clause-accepted c start commands stands =
    let inside : Serving = record { store = c.self.inside.store; book = c.self.inside.book; moderated = c.self.inside.moderator.moderated; stopped = c.self.inside.stopped } in
    settled-accepted inside c.args.now c.args.request.now.gena c.args.out.now.items _ c.settle.new.book _ c.system_update_id.ensures
    c.settle.result c.settle.ensures.answers start commands (subst (λ (z : Serving). StandsFor z start commands) (sym c.self.view_is) stands)

pub returns-clause-unaccepted : goal.returns-clause-unaccepted
returns-clause-unaccepted c start commands stands none =
    let inside : Serving = record { store = c.self.inside.store; book = c.self.inside.book; moderated = c.self.inside.moderator.moderated; stopped = c.self.inside.stopped } in
    settled-same inside c.args.now c.args.request.now.gena c.args.out.now.items _ c.settle.new.book _ c.system_update_id.ensures
    c.settle.result c.settle.ensures.answers c.settle.ensures.stays start commands
    (subst (λ (z : Serving). StandsFor z start commands) (sym c.self.view_is) stands) none
    ∙ c.self.view_is
