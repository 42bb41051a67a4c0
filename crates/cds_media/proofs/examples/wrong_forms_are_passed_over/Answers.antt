use Rattle.std.proofs.Common.{refl}
use Rattle.cds_media.proofs.examples.wrong_forms_are_passed_over.Goals as goal

pub returns : goal.returns
returns c = (refl, refl, refl, refl, refl, refl, refl, refl, refl, refl, refl, refl, refl, refl, refl, refl, refl, refl, refl, refl, refl, refl)
