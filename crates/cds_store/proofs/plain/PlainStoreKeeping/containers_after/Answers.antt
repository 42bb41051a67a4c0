use Rattle.std.proofs.Common.{◌≡◌, ◌∙◌, ◌≤◌, ap, subst, ℕ, List, None}
use Rattle.cds_changes.specs.declared.event_with_parent.EventWithParent.{EventWithParent}
use Rattle.cds_changes.specs.EventsWithParents.{last_touch_in, containers_in}
use Rattle.cds_store.specs.Stands.{Stored}
use Rattle.cds_store.proofs.Touched.{containers-of-kept}
use Rattle.cds_store.proofs.plain.PlainStoreKeeping.containers_after.Goals as goal

pub returns-clause-told : goal.returns-clause-told
returns-clause-told c = λ history stands.
    containers-of-kept c.args.self.now history c.args.span.from c.args.span.to c.args.out.now.items c.extend_from_slice.new.self.items c.as_slice-2.result.now stands c.requires
    c.in_ok-extend_from_slice.ensures.items
    (λ count none. c.as_slice-2.ensures.value
    ∙ subst (λ (kept : List EventWithParent). ((id : ℕ) → count ≤ id → last_touch_in c.args.span.from c.args.span.to id kept ≡ None) →
    c.in_ok-containers.containers.items ≡ containers_in c.args.span.from c.args.span.to count kept)
    (c.as_slice.ensures.value ∙ ap (λ (s : Stored). s.kept) c.self.view_is)
    (c.in_ok-containers.ensures count) none)
