use Rattle.std.proofs.Common.{◌≡◌, ◌∙◌, ◌++◌, ap, rules, nat_cmp}
use Rattle.std.specs.List.{filter}
use Rattle.std.specs.BTreeSet.{contains}
use Rattle.std.proofs.lemmas.Fn.{filter_same}
use Rattle.std.proofs.lemmas.List.Sorted.{IsNonDecreasingBy-from_sort_by_key, answers_always}
use Rattle.cds_store.specs.Offspring.{of_parent}
use Rattle.cds_store.specs.Resolved.{children_staying}
use Rattle.cds_store.specs.declared.offspring.Child.{Child}
use Rattle.cds_store.proofs.OffspringOf.{sorted_same}
use Rattle.cds_store.proofs.offspring.offspring_after.Goals as goal

pub returns : goal.returns
returns c =
    let all : c.extend_from_slice-2.new.self.items ≡ c.args.offspring.now ++ c.args.scan.now.come.items = search rules in
    let kept : c.retain.new.self.items ≡ children_staying (contains nat_cmp c.args.scan.now.gone) c.extend_from_slice-2.new.self.items =
    filter_same _ _ _ (λ x b f' k. search rules) _ _ c.retain.ensures.filtered in
    record {
      rising = IsNonDecreasingBy-from_sort_by_key (λ (ch : Child). ch.parent) c.sort_by_key.new.self.items c.in_ok-sort_by_key.ensures.sorted (λ a r q k. search rules);
      each = λ parent.
          sorted_same parent c.retain.new.self.items c.sort_by_key.new.self.items
          (c.in_ok-sort_by_key.ensures.stable (λ (ch : Child). ch.parent) (answers_always _ _ _ (λ f a r q k. search rules)))
          ∙ ap (filter (of_parent parent)) (kept ∙ ap (children_staying (contains nat_cmp c.args.scan.now.gone)) all);
    }
