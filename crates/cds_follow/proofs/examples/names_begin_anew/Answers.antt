use Rattle.std.proofs.Common.{refl}
use Rattle.cds_follow.proofs.examples.names_begin_anew.Goals as goal

pub returns : goal.returns
returns c = (refl, refl)
