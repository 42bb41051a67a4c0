use Rattle.std.proofs.Common.{refl}
use Rattle.cds_criteria.proofs.examples.keys_are_read.Goals as goal

pub returns : goal.returns
returns c = (refl, refl, refl, refl, refl, refl)
