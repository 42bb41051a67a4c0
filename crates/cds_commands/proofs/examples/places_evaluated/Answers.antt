use Rattle.std.proofs.Common.{refl}
use Rattle.cds_commands.proofs.examples.places_evaluated.Goals as goal

pub returns : goal.returns
returns c = (refl, refl, refl, refl, refl, refl, refl, refl, refl, refl, refl, refl, refl, refl, refl, refl, refl, refl, refl, refl, refl, refl)
