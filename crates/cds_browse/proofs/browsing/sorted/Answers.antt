use Rattle.std.proofs.Common.{◌≡◌, ap, ◌∙◌, take, drop, length}
use Rattle.std.proofs.lemmas.Result.{IfOk-weaker}
use Rattle.cds_object.specs.Object.{ObjectRow}
use Rattle.cds_object.specs.Tree.{children_of}
use Rattle.cds_criteria.specs.Sorting.{ordered}
use Rattle.cds_browse.specs.declared.page.Page.{Page}
use Rattle.cds_browse.specs.Paging.{ids_of, most_rows, page_of}
use Rattle.cds_browse.proofs.Alone.{made}
use Rattle.cds_browse.proofs.Made.{page_is, few_children}
use Rattle.cds_browse.proofs.browsing.sorted.Goals as goal

pub page_among-requires : goal.page_among-requires
page_among-requires g c =
    few_children c.args.keys.now c.row.inside.id.0 (g.V.View.rows c.args.view.now) c.as_slice.result.now (c.as_slice.ensures.value ∙ c.in_ok-ids.ensures)
    c.view_facts.ensures.few

pub returns : goal.returns
returns g c =
    let rows = g.V.View.rows c.args.view.now in
    let number = g.V.View.number c.args.view.now in
    let row = c.args.row.now in
    let keys = c.args.keys.now in
    let start = c.args.asked.now.start in
    let count = c.args.asked.now.count in
    let ids = c.as_slice.result.now in
    let are : ids ≡ ids_of (ordered keys (children_of row.id rows)) =
    c.as_slice.ensures.value ∙ c.in_ok-ids.ensures ∙ ap (λ n. ids_of (ordered keys (children_of n rows))) (ap (λ (r : ObjectRow). r.id) c.row.view_is) in
    IfOk-weaker c.page_among.result (λ (page : Page). page ≡ made (take (most_rows count) (drop start ids)) (length ids) c.args.update)
    (λ (page : Page). page ≡ page_of number rows row keys start count (children_of row.id rows))
    (λ page e. e ∙ page_is number rows row keys start count (children_of row.id rows) ids c.args.update are c.requires) c.page_among.ensures
