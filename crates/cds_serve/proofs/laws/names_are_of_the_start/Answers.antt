use Rattle.cds_serve.proofs.Named.{of-the-start}
use Rattle.cds_serve.proofs.laws.names_are_of_the_start.Goals as goal

pub returns : goal.returns
returns c = of-the-start
