use Rattle.cds_commands.proofs.NamesForm.{evaluated}
use Rattle.cds_commands.proofs.examples.names_evaluated.Goals as goal

pub returns : goal.returns
returns c = evaluated
