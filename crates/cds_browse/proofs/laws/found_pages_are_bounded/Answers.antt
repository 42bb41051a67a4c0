use Rattle.cds_browse.proofs.Pages.{found_bounded}
use Rattle.cds_browse.proofs.laws.found_pages_are_bounded.Goals as goal

pub returns : goal.returns
returns c = found_bounded
