use Rattle.std.proofs.Common.{refl}
use Rattle.cds_serve.proofs.examples.targets_are_read.Goals as goal

pub returns : goal.returns
returns c = (refl, refl, refl, refl, refl, refl, refl, refl, refl, refl, refl, refl)
