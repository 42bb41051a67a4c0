use Rattle.std.proofs.Common.{refl}
use Rattle.cds_serve.proofs.examples.requests_are_free.Goals as goal

pub returns : goal.returns
returns c = (refl, refl, refl, refl, refl, refl, refl, refl, refl, refl, refl, refl, refl)
