use Rattle.cds_commands.proofs.Scanned.{no-change}
use Rattle.cds_commands.proofs.laws.equal_numbers_have_no_change_between.Goals as goal

pub returns : goal.returns
returns c = no-change
