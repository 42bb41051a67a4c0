use Rattle.std.proofs.Common.{refl}
use Rattle.cds_commands.proofs.examples.releases_tell_containers.Goals as goal

pub returns : goal.returns
returns c = refl
