use Rattle.std.proofs.Common.{refl}
use Rattle.cds_media.proofs.examples.others_plan_the_whole.Goals as goal

pub returns : goal.returns
returns c = (refl, refl, refl, refl, refl, refl, refl, refl, refl, refl, refl, refl, refl, refl, refl)
