use Rattle.cds_commands.proofs.Lives.{release-due}
use Rattle.cds_commands.proofs.laws.ticks_release_what_is_due.Goals as goal

pub returns : goal.returns
returns c = release-due
