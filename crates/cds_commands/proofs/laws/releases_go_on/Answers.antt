use Rattle.cds_commands.proofs.Releases.{releases-go}
use Rattle.cds_commands.proofs.laws.releases_go_on.Goals as goal

pub returns : goal.returns
returns c = releases-go
