use Rattle.cds_soap.proofs.Lengths.{bodies-are-short}
use Rattle.cds_soap.proofs.laws.bodies_are_short.Goals as goal

pub returns : goal.returns
returns c = bodies-are-short
