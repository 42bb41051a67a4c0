use Rattle.cds_follow.proofs.NamedIn.{names-same-in}
use Rattle.cds_follow.proofs.laws.names_do_not_matter.Goals as goal

pub returns : goal.returns
returns c = names-same-in
