use Rattle.std.proofs.Common.{◌≡◌, ap, ◌∙◌, take, drop, length}
use Rattle.std.proofs.lemmas.Result.{IfOk-weaker}
use Rattle.cds_object.specs.Object.{ObjectRow}
use Rattle.cds_criteria.specs.Sorting.{ordered}
use Rattle.cds_browse.specs.declared.page.Page.{Page}
use Rattle.cds_browse.specs.Paging.{ids_of, most_rows, page_of}
use Rattle.cds_browse.specs.Searching.{found_in}
use Rattle.cds_browse.proofs.Alone.{made}
use Rattle.cds_browse.proofs.Made.{page_is, few_found}
use Rattle.cds_browse.proofs.searching.page_of.Goals as goal

pub page_among-requires : goal.page_among-requires
page_among-requires g c =
    few_found c.args.keys.now c.args.criteria.now c.row.inside.id.0 (g.V.View.rows c.args.view.now) c.as_slice.result.now
    (c.as_slice.ensures.value ∙ c.in_ok-ids.ensures) c.view_facts.ensures.few

pub returns : goal.returns
returns g c =
    let rows = g.V.View.rows c.args.view.now in
    let number = g.V.View.number c.args.view.now in
    let row = c.args.row.now in
    let keys = c.args.keys.now in
    let start = c.args.asked.now.start in
    let count = c.args.asked.now.count in
    let criteria = c.args.criteria.now in
    let ids = c.as_slice.result.now in
    let are : ids ≡ ids_of (ordered keys (found_in criteria row.id rows)) =
    c.as_slice.ensures.value ∙ c.in_ok-ids.ensures
    ∙ ap (λ n. ids_of (ordered keys (found_in criteria n rows))) (ap (λ (r : ObjectRow). r.id) c.row.view_is) in
    IfOk-weaker c.page_among.result (λ (page : Page). page ≡ made (take (most_rows count) (drop start ids)) (length ids) c.update_of-update.result)
    (λ (page : Page). page ≡ page_of number rows row keys start count (found_in criteria row.id rows))
    (λ page e. e ∙ page_is number rows row keys start count (found_in criteria row.id rows) ids c.update_of-update.result are c.update_of-update.ensures) c.page_among.ensures
