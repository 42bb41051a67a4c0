-- The body of the notes of a tick is short.
use Rattle.std.proofs.Common.{◌≡◌, ◌<◌, ℕ, List, Some, length, sym, subst}
use Rattle.cds_changes.specs.Containers.{containers_between}
use Rattle.cds_changes.specs.Events.{events_between}
use Rattle.cds_store.specs.declared.span.Span.{Span}
use Rattle.cds_commands.specs.Commands.{scans_of}
use Rattle.cds_moderator.specs.Moderating.{next_span}
use Rattle.cds_notify.specs.Propertyset.{propertyset_text}
use Rattle.cds_server.specs.Serving.{Serving, IsServing}
use Rattle.cds_server.proofs.Short.{release-short}
use Rattle.cds_server.proofs.Ticked.{body-told, released}

pub told-short : (serving : Serving) (kept : IsServing serving) (now : ℕ) (span : Span) (due : next_span now serving.moderated ≡ Some span) (body : List ℕ)
    → body ≡ propertyset_text span.to (containers_between (scans_of kept.start.first kept.commands) span.from span.to)
    (events_between (scans_of kept.start.first kept.commands) span.from span.to)
    → length body < 66000000
told-short serving kept now span due body is =
    let found = released serving kept.start kept.commands now kept.stands span due in
    subst (λ (b : List ℕ). length b < 66000000) (sym (body-told serving kept.start kept.commands now kept.stands span due body is))
    (release-short kept.start kept.commands now found.0 kept.accepted found.1)
