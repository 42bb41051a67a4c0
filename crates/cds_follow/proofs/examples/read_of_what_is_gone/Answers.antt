use Rattle.std.proofs.Common.{refl}
use Rattle.cds_follow.proofs.examples.read_of_what_is_gone.Goals as goal

pub returns : goal.returns
returns c = (refl, (refl, refl))
