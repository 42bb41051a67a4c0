use Rattle.cds_control.proofs.PagesRows.{pages-have}
use Rattle.cds_control.proofs.laws.pages_have_their_rows.Goals as goal

pub returns : goal.returns
returns c = pages-have
