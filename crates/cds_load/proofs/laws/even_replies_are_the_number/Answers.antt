use Rattle.cds_load.proofs.Traces.{evens-are_the_number}
use Rattle.cds_load.proofs.laws.even_replies_are_the_number.Goals as goal

pub returns : goal.returns
returns c = evens-are_the_number
