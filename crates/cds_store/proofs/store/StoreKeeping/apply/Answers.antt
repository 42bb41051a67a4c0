use Rattle.std.proofs.Common.{◌≡◌, ◌∙◌, ◌++◌, refl, sym, ap, subst, reverse, [], List, nat_cmp, arith}
use Rattle.std.specs.BTreeSet.{contains}
use Rattle.std.proofs.lemmas.Bool.Decides.{nat_tests}
use Rattle.std.proofs.lemmas.List.{nil_from_length}
use Rattle.cds_catalog.specs.Steps.{Standing, stepped}
use Rattle.cds_catalog.specs.declared.change.Change.{Change}
use Rattle.cds_store.specs.Offspring.{IsIndexed}
use Rattle.cds_store.specs.Resolved.{IsMended}
use Rattle.cds_store.specs.Stands.{Stored, IsCatalogOf, StandsFor, IsScan}
use Rattle.cds_store.specs.declared.offspring.Child.{Child}
use Rattle.cds_store.proofs.Applying.{accepted_is_scan, accepted_orderly, scanned, unchanged, stored_is_store}
use Rattle.cds_store.proofs.Mending.{mended_by}
use Rattle.cds_store.proofs.store.StoreKeeping.apply.Goals as goal

pub mark_all-requires : goal.mark_all-requires
mark_all-requires c =
    let history = c.self.invariant.store.history in
    let stands : StandsFor c.args.self.now history = subst (λ (s : Stored). StandsFor s history) c.self.view_is c.self.invariant.store.stands in
    let planned = c.in_ok-changes.ensures.made history (subst (λ (s : Stored). IsCatalogOf s.standing history) (sym c.self.view_is) (stands.0, stands.1)) in
    accepted_orderly history c.args.records.now (reverse c.in_ok-changes.changes.items) stands.0 planned.0 planned.1

pub resolve-requires : goal.resolve-requires
resolve-requires c =
    let history = c.self.invariant.store.history in
    let stands : StandsFor c.args.self.now history = subst (λ (s : Stored). StandsFor s history) c.self.view_is c.self.invariant.store.stands in
    let planned = c.in_ok-changes.ensures.made history (subst (λ (s : Stored). IsCatalogOf s.standing history) (sym c.self.view_is) (stands.0, stands.1)) in
    subst (IsScan c.self.inside.catalog) (sym c.in_ok-marked.ensures.changes)
    (accepted_is_scan c.self.inside.catalog history c.args.records.now (reverse c.in_ok-changes.changes.items)
    (c.self.invariant.store.stands.0, c.self.invariant.store.stands.1) planned.0 planned.1)

pub commit-requires : goal.commit-requires
commit-requires c =
    let history = c.self.invariant.store.history in
    let stands : StandsFor c.args.self.now history = subst (λ (s : Stored). StandsFor s history) c.self.view_is c.self.invariant.store.stands in
    let planned = c.in_ok-changes.ensures.made history (subst (λ (s : Stored). IsCatalogOf s.standing history) (sym c.self.view_is) (stands.0, stands.1)) in
    record {
      plan = reverse c.in_ok-marked.marked.items;
      scan = subst (IsScan c.self.inside.catalog) (sym c.in_ok-marked.ensures.changes)
          (accepted_is_scan c.self.inside.catalog history c.args.records.now (reverse c.in_ok-changes.changes.items)
          (c.self.invariant.store.stands.0, c.self.invariant.store.stands.1) planned.0 planned.1);
      follows = c.in_ok-scan.ensures;
    }

-- without memory for the rows or the events the store stays
pub invariant_of-self : goal.invariant_of-self
invariant_of-self c =
    subst (λ (s : Stored). IsIndexed s c.self.inside.offspring.items)
    (λ i. record { standing = sym c.in_err-commit.ensures.unmade i; forgotten = c.self.inside.forgotten; kept = sym c.in_err-commit.ensures.unkept i })
    c.self.invariant

pub invariant_of-self-2 : goal.invariant_of-self-2
invariant_of-self-2 c =
    let history = c.self.invariant.store.history in
    let stands : StandsFor c.args.self.now history = subst (λ (s : Stored). StandsFor s history) c.self.view_is c.self.invariant.store.stands in
    let planned = c.in_ok-changes.ensures.made history (subst (λ (s : Stored). IsCatalogOf s.standing history) (sym c.self.view_is) (stands.0, stands.1)) in
    let store : Stored = record { standing = c.self.inside.catalog; forgotten = c.self.inside.forgotten; kept = c.self.inside.kept.items } in
    let after : Stored = record { standing = c.commit.new.self; forgotten = c.self.inside.forgotten; kept = c.commit.new.kept.items } in
    let steps = c.in_ok-commit.ensures.made ∙ ap (stepped c.self.inside.catalog) c.in_ok-scan.ensures.changes in
    record {
      store = stored_is_store after history c.args.records.now planned.0
          (scanned store history c.args.records.now (reverse c.in_ok-changes.changes.items) (reverse c.in_ok-marked.marked.items) c.self.inside.catalog c.commit.new.self
          c.in_ok-scan.scan.told.items c.commit.new.kept.items c.self.invariant.store.stands planned.0 planned.1 c.in_ok-marked.ensures.changes c.in_ok-marked.ensures.marked
          refl steps c.in_ok-scan.ensures.told c.in_ok-commit.ensures.kept);
      children = rw c.replace.ensures.after (mended_by c.self.inside.catalog c.commit.new.self (reverse c.in_ok-marked.marked.items) c.in_ok-scan.scan c.self.inside.offspring.items
          c.in_ok-offspring.offspring.items c.self.invariant.children
          (subst (λ (l : List Child). IsMended (contains nat_cmp c.in_ok-scan.scan.gone) (l ++ c.in_ok-scan.scan.come.items) c.in_ok-offspring.offspring.items) c.as_slice.ensures.value
          c.in_ok-offspring.ensures) c.in_ok-scan.ensures steps);
    }

pub returns : goal.returns
returns c = λ history stands.
    let planned = c.in_ok-changes.ensures.made history (subst (λ (s : Stored). IsCatalogOf s.standing history) (sym c.self.view_is) (stands.0, stands.1)) in
    let store : Stored = record { standing = c.self.inside.catalog; forgotten = c.self.inside.forgotten; kept = c.self.inside.kept.items } in
    let stood : StandsFor store history = subst (λ (s : Stored). StandsFor s history) (sym c.self.view_is) stands in
    let steps = c.in_ok-commit.ensures.made ∙ ap (stepped c.self.inside.catalog) c.in_ok-scan.ensures.changes in
    let after = scanned store history c.args.records.now (reverse c.in_ok-changes.changes.items) (reverse c.in_ok-marked.marked.items) c.self.inside.catalog c.commit.new.self
    c.in_ok-scan.scan.told.items c.commit.new.kept.items stood planned.0 planned.1 c.in_ok-marked.ensures.changes c.in_ok-marked.ensures.marked
    refl steps c.in_ok-scan.ensures.told c.in_ok-commit.ensures.kept in
    let from = c.number-from.ensures ∙ ap (λ (s : Standing). s.number) stood.1 in
    let to = c.number-to.ensures ∙ ap (λ (s : Standing). s.number) after.1 in
    (planned.0, after, (λ i. record { from = from i; to = to i }), ap (λ (s : Stored). s.forgotten) c.self.view_is)

-- without changes everything stays, and so does the number
pub returns-then-is_empty : goal.returns-then-is_empty
returns-then-is_empty c = λ history stands.
    let planned = c.in_ok-changes.ensures.made history (subst (λ (s : Stored). IsCatalogOf s.standing history) (sym c.self.view_is) (stands.0, stands.1)) in
    let none : c.in_ok-changes.changes.items ≡ [] = nil_from_length c.in_ok-changes.changes.items (grind (arith, nat_tests, c.is_empty.ensures, c.if-is_empty.true)) in
    let after = unchanged c.args.self.now history c.args.records.now (reverse c.in_ok-changes.changes.items) stands planned.0 planned.1
    (ap (λ (l : List Change). reverse l) none) in
    let from = c.number-from.ensures ∙ ap (λ (s : Stored). s.standing.number) c.self.view_is ∙ ap (λ (s : Standing). s.number) stands.1 in
    let to = c.number-from.ensures ∙ ap (λ (s : Stored). s.standing.number) c.self.view_is ∙ ap (λ (s : Standing). s.number) after.1 in
    (planned.0, after, (λ i. record { from = from i; to = to i }), refl)
