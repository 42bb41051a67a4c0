use Rattle.std.proofs.Common.{◌∙◌, ap}
use Rattle.cds_changes.specs.EventsWithParents.{events_in}
use Rattle.cds_store.specs.Stands.{Stored}
use Rattle.cds_store.proofs.KeptEvents.{changes-told}
use Rattle.cds_store.proofs.store.StoreKeeping.changes_after.Goals as goal

pub returns-clause-told : goal.returns-clause-told
returns-clause-told c = λ history stands.
    changes-told c.args.self.now history c.args.span.from c.args.span.to c.args.out.now c.extend.new.self c.as_slice-2.result.now stands c.requires
    (c.in_ok-extend.ensures.ok)
    (c.as_slice-2.ensures.value ∙ c.in_ok-events.ensures ∙ ap (events_in c.args.span.from c.args.span.to) c.as_slice.ensures.value
    ∙ ap (λ (s : Stored). events_in c.args.span.from c.args.span.to s.kept) c.self.view_is)
