use Rattle.std.proofs.Common.{◌≡◌, ◌∷◌, [], take, drop, length, ap, sym, ◌∙◌}
use Rattle.std.proofs.lemmas.Result.{IfOk-weaker}
use Rattle.cds_object.specs.Object.{ObjectRow}
use Rattle.cds_object.specs.Tree.{children_of}
use Rattle.cds_browse.specs.declared.page.Page.{Page}
use Rattle.cds_browse.specs.declared.page.Target.{Target}
use Rattle.cds_browse.specs.Paging.{ids_of, most_rows, page_of}
use Rattle.cds_browse.specs.Browsing.{matches}
use Rattle.cds_browse.proofs.Alone.{made, itself_made}
use Rattle.cds_browse.proofs.Unsorted.{children_page, is_container}
use Rattle.cds_browse.proofs.browsing.page_of.Goals as goal

pub children-requires : goal.children-requires
children-requires g c =
    is_container c.args.asked.now.object c.args.row.now (g.V.View.rows c.args.view.now) c.row.inside.id.0 c.args.target c.requires.stands c.requires.has c.in-Children.is
    (ap (λ (r : ObjectRow). r.id) c.row.view_is)

pub returns-in-Itself : goal.returns-in-Itself
returns-in-Itself g c =
    let rows = g.V.View.rows c.args.view.now in
    let number = g.V.View.number c.args.view.now in
    let row = c.args.row.now in
    let asked = c.args.asked.now in
    IfOk-weaker c.itself.result (λ (page : Page). page ≡ made (c.row.inside.id.0 ∷ []) 1 c.update_of-update.result)
    (λ (page : Page). page ≡ page_of number rows row c.args.keys.now asked.start asked.count (matches c.args.target row rows))
    (λ page e. e ∙ itself_made number rows row c.args.keys.now asked.object asked.start asked.count c.update_of-update.result c.args.target c.row.inside.id.0
    c.view_facts.ensures.ascending c.requires.stands c.in-Itself.is c.requires.start c.update_of-update.ensures (ap (λ (r : ObjectRow). r.id) c.row.view_is)) c.itself.ensures

pub returns-then-is_empty : goal.returns-then-is_empty
returns-then-is_empty g c =
    let rows = g.V.View.rows c.args.view.now in
    let number = g.V.View.number c.args.view.now in
    let row = c.args.row.now in
    let asked = c.args.asked.now in
    let id = c.row.inside.id.0 in
    IfOk-weaker c.children.result
    (λ (page : Page). page
    ≡ made (ids_of (take (most_rows asked.count) (drop asked.start (children_of id rows)))) (length (children_of id rows)) c.update_of-update.result)
    (λ (page : Page). page ≡ page_of number rows row c.args.keys.now asked.start asked.count (matches c.args.target row rows))
    (λ page e. e ∙ children_page number rows row c.args.keys.now asked.start asked.count id c.update_of-update.result c.args.target c.view_facts.ensures.ascending
    c.in-Children.is (sym c.is_empty.ensures ∙ c.if-is_empty.true) (ap (λ (r : ObjectRow). r.id) c.row.view_is) c.update_of-update.ensures) c.children.ensures

pub returns-else-is_empty : goal.returns-else-is_empty
returns-else-is_empty g c =
    let rows = g.V.View.rows c.args.view.now in
    let number = g.V.View.number c.args.view.now in
    let row = c.args.row.now in
    let asked = c.args.asked.now in
    IfOk-weaker c.sorted.result (λ (page : Page). page ≡ page_of number rows row c.args.keys.now asked.start asked.count (children_of row.id rows))
    (λ (page : Page). page ≡ page_of number rows row c.args.keys.now asked.start asked.count (matches c.args.target row rows))
    (λ page e. e ∙ ap (λ (t : Target). page_of number rows row c.args.keys.now asked.start asked.count (matches t row rows)) (sym c.in-Children.is)) c.sorted.ensures
