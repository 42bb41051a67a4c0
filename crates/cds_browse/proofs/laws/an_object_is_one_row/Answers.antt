use Rattle.cds_browse.proofs.Pages.{one_row}
use Rattle.cds_browse.proofs.laws.an_object_is_one_row.Goals as goal

pub returns : goal.returns
returns c = one_row
