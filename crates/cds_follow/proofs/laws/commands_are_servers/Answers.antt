use Rattle.cds_follow.proofs.Served.{commands-serve}
use Rattle.cds_follow.proofs.laws.commands_are_servers.Goals as goal

pub returns : goal.returns
returns c = commands-serve
