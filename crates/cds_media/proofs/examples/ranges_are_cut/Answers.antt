use Rattle.std.proofs.Common.{refl}
use Rattle.cds_media.proofs.examples.ranges_are_cut.Goals as goal

pub returns : goal.returns
returns c = (refl, refl, refl, refl, refl, refl, refl, refl, refl, refl, refl, refl, refl, refl, refl, refl, refl, refl, refl, refl, refl, refl, refl, refl, refl, refl, refl, refl)
