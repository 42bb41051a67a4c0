use Rattle.std.proofs.Common.{refl}
use Rattle.cds_http.proofs.examples.heads_are_cut.Goals as goal

pub returns : goal.returns
returns c = (refl, refl, refl, refl, refl, refl, refl, refl, refl)
