use Rattle.std.proofs.Common.{◌≡◌, ◌∙◌, ◌≤◌, ap, sym, map, filter, take, drop, length, List, ℕ, arith}
use Rattle.std.proofs.lemmas.List.{take-map, drop-map, length-map}
use Rattle.cds_object.specs.Object.{ObjectRow}
use Rattle.cds_object.specs.Tree.{children_of}
use Rattle.cds_store.specs.Offspring.{ids_in, of_parent}
use Rattle.cds_store.specs.Rows.{rows_of}
use Rattle.cds_store.specs.Stands.{Stored}
use Rattle.cds_store.specs.declared.offspring.Child.{Child}
use Rattle.cds_store.proofs.Children.{ids_are_few, page_of_ids}
use Rattle.cds_store.proofs.store.StoreView.children.Goals as goal

pub overflow_cast-result : goal.overflow_cast-result
overflow_cast-result c =
    let listed = ap (λ (l : List Child). ids_in l) (c.children_in-children.ensures ∙ ap (filter (of_parent c.args.id)) c.as_slice.ensures.value)
    ∙ c.self.invariant.children.each c.args.id in
    let few = ids_are_few c.args.id c.self.inside.catalog.rows (ids_in c.children_in-children.result.now) listed in
    let all : length c.self.inside.catalog.rows ≤ 65536 = c.self.invariant.store.few in
    let same = length-map c.children_in-children.result.now (λ (ch : Child). ch.id) in
    omega (arith, few, all, same)

page_ids : (start count : ℕ) (children : List Child) → ids_in (take count (drop start children)) ≡ take count (drop start (ids_in children))
page_ids start count children =
    let f : Child → ℕ = λ ch. ch.id in
    sym (ap (take count) (drop-map f start children) ∙ take-map f count (drop start children))

pub returns-clause-page : goal.returns-clause-page
returns-clause-page c =
    let listed = ap (λ (l : List Child). ids_in l) (c.children_in-children.ensures ∙ ap (filter (of_parent c.args.id)) c.as_slice.ensures.value)
    ∙ c.self.invariant.children.each c.args.id
    ∙ ap (λ (s : Stored). map (λ (r : ObjectRow). r.id) (children_of c.args.id (rows_of s.standing.rows))) c.self.view_is in
    page_of_ids c.args.out.now.items c.extend_from_slice.new.self.items c.as_slice-2.result.now (ids_in c.children_in-children.result.now) c.args.start c.args.count
    (children_of c.args.id (rows_of c.args.self.now.standing.rows)) c.in_ok-extend_from_slice.ensures.items
    (c.as_slice-2.ensures.value ∙ c.in_ok-ids.ensures ∙ ap (λ (l : List Child). ids_in l) c.page_of.ensures
    ∙ page_ids c.args.start c.args.count c.children_in-children.result.now)
    listed
