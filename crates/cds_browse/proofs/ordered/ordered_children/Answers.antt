use Rattle.std.proofs.Common.{◌∙◌}
use Rattle.cds_object.specs.Tree.{is_child_of, children_of}
use Rattle.cds_criteria.specs.Sorting.{ordered}
use Rattle.cds_browse.proofs.Placing.{filter_ascends, ids_at_places}
use Rattle.cds_browse.proofs.ordered.ordered_children.Goals as goal

pub returns : goal.returns
returns g c =
    let rows = g.V.View.rows c.args.view.now in
    let some = children_of c.args.id rows in
    let sorted = c.sort_places.ensures some (filter_ascends (is_child_of c.args.id) rows c.view_facts.ensures.ascending) c.in_ok-places.ensures in
    c.ids_from.ensures ∙ ids_at_places rows c.sort_places.new.places.items (ordered c.args.keys.now some) sorted
