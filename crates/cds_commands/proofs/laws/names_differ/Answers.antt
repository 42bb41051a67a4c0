use Rattle.cds_commands.proofs.NamesForm.{differ}
use Rattle.cds_commands.proofs.laws.names_differ.Goals as goal

pub returns : goal.returns
returns c = differ
