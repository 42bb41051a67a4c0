use Rattle.cds_browse.proofs.Pages.{each_child}
use Rattle.cds_browse.proofs.laws.pages_show_each_child_once.Goals as goal

pub returns : goal.returns
returns c = each_child
