use Rattle.std.proofs.Common.{◌∙◌, ap, rules, List}
use Rattle.std.proofs.lemmas.List.Sorted.{IsNonDecreasingBy-from_sort_by_key, answers_always}
use Rattle.cds_store.specs.Offspring.{ids_in, of_parent}
use Rattle.std.specs.List.{filter}
use Rattle.cds_store.specs.declared.offspring.Child.{Child}
use Rattle.cds_store.proofs.OffspringOf.{in_row_order, sorted_same}
use Rattle.cds_store.proofs.offspring.offspring_of.Goals as goal

pub returns : goal.returns
returns c = record {
  rising = IsNonDecreasingBy-from_sort_by_key (λ (ch : Child). ch.parent) c.sort_by_key.new.self.items c.in_ok-sort_by_key.ensures.sorted (λ a r q k. search rules);
  each = λ parent.
      ap ids_in (sorted_same parent c.in_ok-offspring.offspring.items c.sort_by_key.new.self.items
      (c.in_ok-sort_by_key.ensures.stable (λ (ch : Child). ch.parent) (answers_always _ _ _ (λ f a r q k. search rules))))
      ∙ ap (λ (l : List Child). ids_in (filter (of_parent parent) l)) c.in_ok-offspring.ensures ∙ in_row_order parent c.args.rows.now;
}
