use Rattle.std.proofs.Common.{refl}
use Rattle.cds_commands.proofs.examples.moments_may_fall.Goals as goal

pub returns : goal.returns
returns c = (refl, refl, refl, refl, refl)
