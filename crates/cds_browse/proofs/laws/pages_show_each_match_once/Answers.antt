use Rattle.cds_browse.proofs.Pages.{each_match}
use Rattle.cds_browse.proofs.laws.pages_show_each_match_once.Goals as goal

pub returns : goal.returns
returns c = each_match
