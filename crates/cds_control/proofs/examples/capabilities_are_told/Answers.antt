use Rattle.std.proofs.Common.{refl}
use Rattle.cds_control.proofs.examples.capabilities_are_told.Goals as goal

pub returns : goal.returns
returns c = (refl, refl, refl, refl)
