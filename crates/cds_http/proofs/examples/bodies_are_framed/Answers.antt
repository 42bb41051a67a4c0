use Rattle.std.proofs.Common.{refl}
use Rattle.cds_http.proofs.examples.bodies_are_framed.Goals as goal

pub returns : goal.returns
returns c = (refl, refl, refl, refl, refl, refl, refl, refl, refl, refl, refl, refl, refl)
