use Rattle.std.proofs.Common.{◌≡◌, ◌<◌, ◌≤◌, ◌++◌, ◌+◌, map, Option, Some, None, IfSome, refl, sym, subst, ap, ◌∙◌, arith}
use Rattle.std.specs.List.{AllByRecursion}
use Rattle.cds_catalog.proofs.StepsFind.{none≢some}
use Rattle.cds_commands.specs.Commands.{scans_of}
use Rattle.cds_commands.specs.Releases.{release_size}
use Rattle.cds_gena.specs.Subscribed.{Booked, IsDelivered, address_of, alive}
use Rattle.cds_moderator.specs.Moderating.{next_span}
use Rattle.cds_store.specs.declared.span.Span.{Span}
use Rattle.cds_server.specs.Serving.{IsServing, Serving, StandsFor}
use Rattle.cds_server.proofs.Told.{told-short}
use Rattle.cds_server.proofs.Ticked.{begins, ends, notes-due, some-release, stands-after, ticked-serving}
use Rattle.cds_server.proofs.server.Server.release.Goals as goal

-- a release has a change
more : (span : Span) (o : Option Span) → o ≡ Some span → IfSome o (λ (s : Span). (s.from < s.to) × (s.to ≤ s.from + release_size)) → span.from < span.to
more span None e h = none≢some None span refl e
more span (Some other) e h = let same : other ≡ span = cc in subst (λ (s : Span). s.from < s.to) same h.0

pub note_body-requires : goal.note_body-requires
note_body-requires c =
    let inside : Serving = record { store = c.self.inside.store; book = c.self.inside.book; moderated = c.self.inside.moderator.moderated; stopped = c.self.inside.stopped } in
    let kept = c.self.invariant in
    let due : next_span c.args.now inside.moderated ≡ Some c.args.span = ap (λ (z : Serving). next_span c.args.now z.moderated) c.self.view_is ∙ c.requires.due in
    let begin = begins inside kept.start kept.commands c.args.now kept.stands c.args.span due in
    omega (arith, begin)

pub forget-requires : goal.forget-requires
forget-requires c =
    let inside : Serving = record { store = c.self.inside.store; book = c.self.inside.book; moderated = c.self.inside.moderator.moderated; stopped = c.self.inside.stopped } in
    let kept = c.self.invariant in
    let due : next_span c.args.now inside.moderated ≡ Some c.args.span = ap (λ (z : Serving). next_span c.args.now z.moderated) c.self.view_is ∙ c.requires.due in
    ends inside kept.start kept.commands c.args.now kept.stands c.args.span due

pub invariant_of-self : goal.invariant_of-self
invariant_of-self c =
    subst (λ (b : Booked). IsServing (record { store = c.self.inside.store; book = b; moderated = c.self.inside.moderator.moderated; stopped = c.self.inside.stopped })) (sym c.in_err-next_notes.ensures.kept.0) c.self.invariant

pub invariant_of-self-2 : goal.invariant_of-self-2
invariant_of-self-2 c =
    let inside : Serving = record { store = c.self.inside.store; book = c.self.inside.book; moderated = c.self.inside.moderator.moderated; stopped = c.self.inside.stopped } in
    let kept = c.self.invariant in
    let due : next_span c.args.now inside.moderated ≡ Some c.args.span = ap (λ (z : Serving). next_span c.args.now z.moderated) c.self.view_is ∙ c.requires.due in
    let some : c.args.span.from < c.args.span.to = more c.args.span c.release.result (c.release.ensures.step ∙ due) c.release.ensures.size in
    ticked-serving inside _ c.args.now kept c.in_ok-next_notes.ensures.names
    (stands-after inside kept.start kept.commands c.args.now kept.stands c.args.span due _ _ _ some
    (c.forget.ensures.stands (scans_of kept.start.first kept.commands) kept.stands.store) c.forget.ensures.forgotten
    (c.in_ok-next_notes.ensures.stands kept.start kept.commands kept.stands.book (some-release inside kept.start kept.commands c.args.now kept.stands c.args.span due))
    (c.release.ensures.stands kept.start.first kept.commands kept.stands.moderated).1)

pub returns-clause-stands : goal.returns-clause-stands
returns-clause-stands c start commands stands =
    let inside : Serving = record { store = c.self.inside.store; book = c.self.inside.book; moderated = c.self.inside.moderator.moderated; stopped = c.self.inside.stopped } in
    let due : next_span c.args.now inside.moderated ≡ Some c.args.span = ap (λ (z : Serving). next_span c.args.now z.moderated) c.self.view_is ∙ c.requires.due in
    let here = subst (λ (z : Serving). StandsFor z start commands) (sym c.self.view_is) stands in
    let some : c.args.span.from < c.args.span.to = more c.args.span c.release.result (c.release.ensures.step ∙ due) c.release.ensures.size in
    stands-after inside start commands c.args.now here c.args.span due _ _ _ some
    (c.forget.ensures.stands (scans_of start.first commands) here.store) c.forget.ensures.forgotten
    (c.in_ok-next_notes.ensures.stands start commands here.book (some-release inside start commands c.args.now here c.args.span due))
    (c.release.ensures.stands start.first commands here.moderated).1

pub returns-clause-notes : goal.returns-clause-notes
returns-clause-notes c start commands stands =
    let inside : Serving = record { store = c.self.inside.store; book = c.self.inside.book; moderated = c.self.inside.moderator.moderated; stopped = c.self.inside.stopped } in
    let due : next_span c.args.now inside.moderated ≡ Some c.args.span = ap (λ (z : Serving). next_span c.args.now z.moderated) c.self.view_is ∙ c.requires.due in
    let here = subst (λ (z : Serving). StandsFor z start commands) (sym c.self.view_is) stands in
    let to : c.next_notes.new.out ≡ map (address_of c.self.inside.book.names) (alive c.args.now c.self.inside.book.subscribed.living) =
    c.in_ok-next_notes.ensures.notes ∙ ap (λ l. l ++ map (address_of c.self.inside.book.names) (alive c.args.now c.self.inside.book.subscribed.living)) c.new-to.ensures in
    notes-due inside start commands c.args.now here c.args.span due _ _ (c.in_ok-body.ensures (scans_of start.first commands) here.store) to

pub returns-clause-delivered : goal.returns-clause-delivered
returns-clause-delivered c =
    let to : c.next_notes.new.out ≡ map (address_of c.self.inside.book.names) (alive c.args.now c.self.inside.book.subscribed.living) =
    c.in_ok-next_notes.ensures.notes ∙ ap (λ l. l ++ map (address_of c.self.inside.book.names) (alive c.args.now c.self.inside.book.subscribed.living)) c.new-to.ensures in
    subst (AllByRecursion IsDelivered) (sym to) c.in_ok-next_notes.ensures.delivered

pub returns-clause-short : goal.returns-clause-short
returns-clause-short c =
    let inside : Serving = record { store = c.self.inside.store; book = c.self.inside.book; moderated = c.self.inside.moderator.moderated; stopped = c.self.inside.stopped } in
    let kept = c.self.invariant in
    let due : next_span c.args.now inside.moderated ≡ Some c.args.span = ap (λ (z : Serving). next_span c.args.now z.moderated) c.self.view_is ∙ c.requires.due in
    told-short inside kept c.args.now c.args.span due _ (c.in_ok-body.ensures (scans_of kept.start.first kept.commands) kept.stands.store)
