use Rattle.std.proofs.Common.{◌∙◌, sym, subst}
use Rattle.cds_catalog.specs.Library.{map_of}
use Rattle.cds_commands.specs.Commands.{scans_of}
use Rattle.cds_moderator.specs.Moderating.{Moderated}
use Rattle.cds_store.specs.Stands.{Stored}
use Rattle.cds_server.specs.Serving.{CanFollow, IsServing, Serving, StandsFor}
use Rattle.cds_server.proofs.Stands.{scan-follows, scan-serving, scan-stands}
use Rattle.cds_server.proofs.server.Server.accept_records.Goals as goal

pub tell-requires : goal.tell-requires
tell-requires c =
    let inside : Serving = record { store = c.self.inside.store; book = c.self.inside.book; moderated = c.self.inside.moderator.moderated; stopped = c.self.inside.stopped } in
    let applied = c.in_ok-span.ensures (scans_of c.self.invariant.start.first c.self.invariant.commands) c.self.invariant.stands.store in
    record {
      spare = c.in_ok-reserve.ensures.spare;
      follows = subst (CanFollow c.in_ok-span.span) (sym c.in_ok-reserve.ensures.same)
          (scan-follows inside c.args.records.now c.in_ok-span.span c.self.invariant applied.0 applied.2);
    }

pub invariant_of-self : goal.invariant_of-self
invariant_of-self c =
    subst (λ (m : Moderated). IsServing (record { store = c.self.inside.store; book = c.self.inside.book; moderated = m; stopped = c.self.inside.stopped })) (sym c.in_err-reserve.ensures.same) c.self.invariant

pub invariant_of-self-in_err-span : goal.invariant_of-self-in_err-span
invariant_of-self-in_err-span c =
    let applied = c.in_err-span.ensures (scans_of c.self.invariant.start.first c.self.invariant.commands) c.self.invariant.stands.store in
    subst (λ (t : Stored). IsServing (record { store = t; book = c.self.inside.book; moderated = c.reserve.new.self.moderated; stopped = c.self.inside.stopped })) (sym applied.1)
    (subst (λ (m : Moderated). IsServing (record { store = c.self.inside.store; book = c.self.inside.book; moderated = m; stopped = c.self.inside.stopped })) (sym c.in_ok-reserve.ensures.same) c.self.invariant)

pub invariant_of-self-2 : goal.invariant_of-self-2
invariant_of-self-2 c =
    let inside : Serving = record { store = c.self.inside.store; book = c.self.inside.book; moderated = c.self.inside.moderator.moderated; stopped = c.self.inside.stopped } in
    let applied = c.in_ok-span.ensures (scans_of c.self.invariant.start.first c.self.invariant.commands) c.self.invariant.stands.store in
    scan-serving inside c.args.records.now _ _ c.self.invariant applied.0 applied.1 applied.3
    (c.tell.ensures c.self.invariant.start.first c.self.invariant.commands (map_of c.args.records.now) (c.in_ok-reserve.ensures.same ∙ c.self.invariant.stands.moderated) applied.2)

pub returns-clause-scanned : goal.returns-clause-scanned
returns-clause-scanned c start commands stands =
    let inside : Serving = record { store = c.self.inside.store; book = c.self.inside.book; moderated = c.self.inside.moderator.moderated; stopped = c.self.inside.stopped } in
    let here = subst (λ (z : Serving). StandsFor z start commands) (sym c.self.view_is) stands in
    let applied = c.in_ok-span.ensures (scans_of start.first commands) here.store in (
      applied.0,
      scan-stands inside start commands c.args.records.now _ _ here applied.1 applied.3
          (c.tell.ensures start.first commands (map_of c.args.records.now) (c.in_ok-reserve.ensures.same ∙ here.moderated) applied.2),
      applied.2,
    )
