use Rattle.cds_commands.proofs.NamesForm.{short}
use Rattle.cds_commands.proofs.laws.names_are_short.Goals as goal

pub returns : goal.returns
returns c = short
