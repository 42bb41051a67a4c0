use Rattle.std.proofs.Common.{refl}
use Rattle.std.specs.Fmt.{digits}
use Rattle.uuid.specs.Text.{by_index}
use Rattle.cds_server.proofs.examples.actions_are_answered.Goals as goal

pub returns : goal.returns
unfolding digits by_index
returns c = (refl, refl, refl)
