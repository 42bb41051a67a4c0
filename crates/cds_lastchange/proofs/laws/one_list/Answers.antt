use Rattle.cds_lastchange.proofs.Deciding.{one-list}
use Rattle.cds_lastchange.proofs.laws.one_list.Goals as goal

pub returns : goal.returns
returns c = one-list
