use Rattle.std.proofs.Common.{◌∙◌, ap, sym, Some}
use Rattle.cds_object.specs.Object.{ObjectRow}
use Rattle.cds_store.proofs.RowsFound.{none_found, row_found}
use Rattle.cds_store.proofs.halving.row_by_id.Goals as goal

pub returns-in-None : goal.returns-in-None
returns-in-None c = sym (none_found c.args.id c.args.rows.now c.in-None.ensures)

pub returns-in-Some : goal.returns-in-Some
returns-in-Some c =
    ap (λ (r : ObjectRow). Some r) c.row.ensures ∙ row_found c.args.id c.in-Some.at c.args.rows.now c.index-rows-at.result c.in-Some.ensures c.index-rows-at.is
