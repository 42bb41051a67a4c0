use Rattle.cds_gena.proofs.Served.{named-numbers}
use Rattle.cds_gena.proofs.laws.names_are_of_numbers.Goals as goal

pub returns : goal.returns
returns c = named-numbers
