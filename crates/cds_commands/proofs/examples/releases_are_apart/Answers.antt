use Rattle.std.proofs.Common.{refl}
use Rattle.cds_commands.proofs.examples.releases_are_apart.Goals as goal

pub returns : goal.returns
returns c = (refl, refl, refl)
