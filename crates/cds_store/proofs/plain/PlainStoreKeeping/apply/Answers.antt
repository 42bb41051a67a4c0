use Rattle.std.proofs.Common.{◌≡◌, ◌∙◌, ◌++◌, refl, sym, ap, subst, reverse, [], List, arith}
use Rattle.std.proofs.lemmas.Bool.Decides.{nat_tests}
use Rattle.std.proofs.lemmas.List.{nil_from_length}
use Rattle.cds_catalog.specs.History.{with_scan}
use Rattle.cds_catalog.specs.Library.{map_of}
use Rattle.cds_catalog.specs.Steps.{Standing}
use Rattle.cds_catalog.specs.declared.change.Change.{Change}
use Rattle.cds_changes.specs.declared.event_with_parent.EventWithParent.{EventWithParent}
use Rattle.cds_store.specs.Stands.{Stored, IsCatalogOf, StandsFor, IsStore, IsScan}
use Rattle.cds_store.proofs.Applying.{accepted_is_scan, accepted_orderly, scanned, unchanged, stored_is_store}
use Rattle.cds_store.proofs.plain.PlainStoreKeeping.apply.Goals as goal

pub mark_all-requires : goal.mark_all-requires
mark_all-requires c =
    let history = c.self.invariant.history in
    let stands : StandsFor c.args.self.now history = subst (λ (s : Stored). StandsFor s history) c.self.view_is c.self.invariant.stands in
    let planned = c.in_ok-changes.ensures.made history (subst (λ (s : Stored). IsCatalogOf s.standing history) (sym c.self.view_is) (stands.0, stands.1)) in
    accepted_orderly history c.args.records.now (reverse c.in_ok-changes.changes.items) stands.0 planned.0 planned.1

pub make_all-requires : goal.make_all-requires
make_all-requires c =
    let history = c.self.invariant.history in
    let stands : StandsFor c.args.self.now history = subst (λ (s : Stored). StandsFor s history) c.self.view_is c.self.invariant.stands in
    let planned = c.in_ok-changes.ensures.made history (subst (λ (s : Stored). IsCatalogOf s.standing history) (sym c.self.view_is) (stands.0, stands.1)) in
    subst (IsScan c.in_ok-next.next) (sym c.in_ok-plan.ensures.changes)
    (accepted_is_scan c.in_ok-next.next history c.args.records.now (reverse c.in_ok-changes.changes.items)
    (c.self.invariant.stands.0, c.in_ok-next.ensures ∙ c.self.invariant.stands.1) planned.0 planned.1)

-- without memory for the events the store stays
pub invariant_of-self : goal.invariant_of-self
invariant_of-self c =
    subst (λ (kept : List EventWithParent). IsStore (record { standing = c.self.inside.catalog; forgotten = c.self.inside.forgotten; kept = kept }))
    (sym c.in_err-keep.ensures.err) c.self.invariant

pub invariant_of-self-2 : goal.invariant_of-self-2
invariant_of-self-2 c =
    let history = c.self.invariant.history in
    let stands : StandsFor c.args.self.now history = subst (λ (s : Stored). StandsFor s history) c.self.view_is c.self.invariant.stands in
    let planned = c.in_ok-changes.ensures.made history (subst (λ (s : Stored). IsCatalogOf s.standing history) (sym c.self.view_is) (stands.0, stands.1)) in
    let store : Stored = record { standing = c.self.inside.catalog; forgotten = c.self.inside.forgotten; kept = c.self.inside.kept.items } in
    let after : Stored = record { standing = c.make_all.new.self; forgotten = c.self.inside.forgotten; kept = c.keep.new.kept.items } in
    rw c.replace.ensures.after (stored_is_store after history c.args.records.now planned.0
    (scanned store history c.args.records.now (reverse c.in_ok-changes.changes.items) (reverse c.in_ok-plan.plan.items) c.in_ok-next.next c.make_all.new.self
    c.in_ok-told.told.items c.keep.new.kept.items c.self.invariant.stands planned.0 planned.1 c.in_ok-plan.ensures.changes c.in_ok-plan.ensures.marked
    c.in_ok-next.ensures c.in_ok-told.ensures.made c.in_ok-told.ensures.told
    (c.in_ok-keep.ensures.ok ∙ ap (λ (l : List EventWithParent). c.self.inside.kept.items ++ l) c.as_slice.ensures.value)))

pub returns : goal.returns
returns c = λ history stands.
    let planned = c.in_ok-changes.ensures.made history (subst (λ (s : Stored). IsCatalogOf s.standing history) (sym c.self.view_is) (stands.0, stands.1)) in
    let store : Stored = record { standing = c.self.inside.catalog; forgotten = c.self.inside.forgotten; kept = c.self.inside.kept.items } in
    let stood : StandsFor store history = subst (λ (s : Stored). StandsFor s history) (sym c.self.view_is) stands in
    let after = scanned store history c.args.records.now (reverse c.in_ok-changes.changes.items) (reverse c.in_ok-plan.plan.items) c.in_ok-next.next c.make_all.new.self
    c.in_ok-told.told.items c.keep.new.kept.items stood planned.0 planned.1 c.in_ok-plan.ensures.changes c.in_ok-plan.ensures.marked
    c.in_ok-next.ensures c.in_ok-told.ensures.made c.in_ok-told.ensures.told
    (c.in_ok-keep.ensures.ok ∙ ap (λ (l : List EventWithParent). c.self.inside.kept.items ++ l) c.as_slice.ensures.value) in
    let from = c.number-from.ensures ∙ ap (λ (s : Standing). s.number) stood.1 in
    let to = c.number-to.ensures ∙ ap (λ (s : Standing). s.number) after.1 in
    let stands_after = subst (λ (s : Standing). StandsFor (record { standing = s; forgotten = c.self.inside.forgotten; kept = c.keep.new.kept.items })
    (with_scan history (map_of c.args.records.now))) (sym c.replace.ensures.after) after in
    (planned.0, stands_after, (λ i. record { from = from i; to = to i }), ap (λ (s : Stored). s.forgotten) c.self.view_is)

-- without changes everything stays, and so does the number
pub returns-then-is_empty : goal.returns-then-is_empty
returns-then-is_empty c = λ history stands.
    let planned = c.in_ok-changes.ensures.made history (subst (λ (s : Stored). IsCatalogOf s.standing history) (sym c.self.view_is) (stands.0, stands.1)) in
    let none : c.in_ok-changes.changes.items ≡ [] = nil_from_length c.in_ok-changes.changes.items (grind (arith, nat_tests, c.is_empty.ensures, c.if-is_empty.true)) in
    let after = unchanged c.args.self.now history c.args.records.now (reverse c.in_ok-changes.changes.items) stands planned.0 planned.1
    (ap (λ (l : List Change). reverse l) none) in
    let from = c.number-from.ensures ∙ ap (λ (s : Stored). s.standing.number) c.self.view_is ∙ ap (λ (s : Standing). s.number) stands.1 in
    let to = c.number-from.ensures ∙ ap (λ (s : Stored). s.standing.number) c.self.view_is ∙ ap (λ (s : Standing). s.number) after.1 in
    (planned.0, after, (λ i. record { from = from i; to = to i }), refl)
