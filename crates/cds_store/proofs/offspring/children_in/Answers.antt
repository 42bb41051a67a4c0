use Rattle.std.proofs.Common.{◌∙◌, ◌≤◌, ap, sym, subst, rules, take, drop, length, List, nat_lt, nat_le, true, false, ◌≡◌}
use Rattle.std.specs.List.Sorted.{IsPartitionPoint}
use Rattle.std.proofs.lemmas.List.Sorted.{IsPartitionPoint-from_clause, IsPartitionedBy-ltb, IsPartitionedBy-leb}
use Rattle.cds_store.specs.Offspring.{Rises}
use Rattle.cds_store.specs.declared.offspring.Child.{Child}
use Rattle.cds_store.proofs.OffspringOf.{halved, rises_drop}
use Rattle.cds_store.proofs.offspring.children_in.Goals as goal

pub returns : goal.returns
returns c =
    let parent = c.args.parent in
    let all : List Child = c.args.offspring.now in
    let rest : List Child = c.split_at.result.1.now in
    let first = c.partition_point-first.result in
    let count = c.partition_point-count.result in
    let back = c.split_at.ensures.back in
    let lower = IsPartitionPoint-from_clause (λ (ch : Child). nat_lt ch.parent parent) all first c.partition_point-first.ensures.partitioned
    (IsPartitionedBy-ltb (λ (ch : Child). ch.parent) all parent c.requires) (λ a r q k. search rules) in
    let rising : Rises rest = subst Rises (sym back) (rises_drop all first c.requires) in
    let upper = IsPartitionPoint-from_clause (λ (ch : Child). nat_le ch.parent parent) rest count c.partition_point-count.ensures.partitioned
    (IsPartitionedBy-leb (λ (ch : Child). ch.parent) rest parent rising) (λ a r q k. search rules) in
    let here : IsPartitionPoint (λ (ch : Child). nat_le ch.parent parent ≡ true) (λ (ch : Child). nat_le ch.parent parent ≡ false) (drop first all) count =
    subst (λ (l : List Child). IsPartitionPoint (λ (ch : Child). nat_le ch.parent parent ≡ true) (λ (ch : Child). nat_le ch.parent parent ≡ false) l count) back upper in
    let bound : count ≤ length (drop first all) = subst (λ (l : List Child). count ≤ length l) back c.partition_point-count.ensures.bound in
    c.split_at-2.ensures.front ∙ ap (take count) back
    ∙ halved parent all first count c.partition_point-first.ensures.bound lower.0 lower.1 bound here.0 here.1
