use Rattle.cds_browse.proofs.Pages.{bounded}
use Rattle.cds_browse.proofs.laws.pages_are_bounded.Goals as goal

pub returns : goal.returns
returns c = bounded
