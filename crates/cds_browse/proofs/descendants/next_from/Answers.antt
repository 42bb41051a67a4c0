use Rattle.std.proofs.Common.{◌≡◌, ◌≤◌, suc, Some, length, sym, subst, arith}
use Rattle.std.specs.Prelude.{slice_get}
use Rattle.cds_criteria.specs.Descendants.{parent_in}
use Rattle.cds_browse.specs.Lineage.{leads_from}
use Rattle.cds_browse.specs.Places.{place_in}
use Rattle.cds_browse.proofs.Lineage.{further, gone}
use Rattle.cds_browse.proofs.descendants.next_from.Goals as goal

pub returns-then-next-len : goal.returns-then-next-len
returns-then-next-len g c =
    let rows = g.V.View.rows c.args.view.now in
    let parent : parent_in (slice_get rows c.args.place) ≡ Some c.in-Some.parent = sym c.in-Some.ensures in
    let at : c.place_of-next.result ≡ place_in c.in-Some.parent rows = c.place_of-next.ensures in (
      omega arith,
      λ steps. subst (λ n. leads_from (suc steps) rows c.args.container c.args.place ≡ leads_from steps rows c.args.container n) (sym at)
          (further rows c.args.container c.args.place c.in-Some.parent steps parent c.if-parent-container.false),
    )

pub returns-else-next-len : goal.returns-else-next-len
returns-else-next-len g c =
    let rows = g.V.View.rows c.args.view.now in
    let parent : parent_in (slice_get rows c.args.place) ≡ Some c.in-Some.parent = sym c.in-Some.ensures in
    let past : length rows ≤ place_in c.in-Some.parent rows = omega (arith, c.place_of-next.ensures, c.len.ensures.exact, c.if-next-len.false) in
    gone rows c.args.container c.args.place c.in-Some.parent c.requires parent c.if-parent-container.false past
