use Rattle.std.proofs.Common.{◌∙◌}
use Rattle.cds_criteria.specs.Descendants.{is_below, descendants}
use Rattle.cds_criteria.specs.Meaning.{meets}
use Rattle.cds_criteria.specs.Sorting.{ordered}
use Rattle.cds_browse.specs.Searching.{found_in}
use Rattle.cds_browse.proofs.Placing.{filter_ascends, ids_at_places}
use Rattle.cds_browse.proofs.ordered.ordered_matches.Goals as goal

pub returns : goal.returns
returns g c =
    let rows = g.V.View.rows c.args.view.now in
    let some = found_in c.args.criteria.now c.args.container rows in
    let asc = filter_ascends (meets c.args.criteria.now) (descendants c.args.container rows) (filter_ascends (is_below rows c.args.container) rows c.view_facts.ensures.ascending) in
    c.ids_from.ensures ∙ ids_at_places rows c.sort_places.new.places.items (ordered c.args.keys.now some) (c.sort_places.ensures some asc c.in_ok-places.ensures)
