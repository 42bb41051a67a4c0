use Rattle.std.proofs.Common.{length, ◌≤◌, arith, rules}
use Rattle.cds_object.specs.Tree.{children_of}
use Rattle.cds_store.specs.Rows.{rows_of}
use Rattle.cds_store.proofs.Children.{ids_are_few, page_of_ids}
use Rattle.cds_store.proofs.plain.PlainStoreView.children.Goals as goal

pub overflow_cast-result : goal.overflow_cast-result
overflow_cast-result c =
    let few = ids_are_few c.args.id c.rows.result.now c.in_ok-ids.ids.items c.in_ok-ids.ensures in
    let all : length c.rows.result.now ≤ 65536 = rw (c.rows.ensures) c.self.invariant.few in
    omega (arith, few, all)

pub returns-clause-page : goal.returns-clause-page
returns-clause-page c =
    page_of_ids c.args.out.now.items c.extend_from_slice.new.self.items c.page.result.now c.in_ok-ids.ids.items c.args.start c.args.count
    (children_of c.args.id (rows_of c.args.self.now.standing.rows)) c.in_ok-extend_from_slice.ensures.items (search rules) (search rules)
