use Rattle.std.proofs.Common.{refl}
use Rattle.cds_server.proofs.examples.requests_are_routed.Goals as goal

pub returns : goal.returns
returns c = (refl, refl, refl, refl, refl, refl, refl, refl, refl, refl, refl, refl, refl, refl, refl, refl, refl, refl, refl, refl)
