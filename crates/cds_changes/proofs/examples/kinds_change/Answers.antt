use Rattle.std.proofs.Common.{refl}
use Rattle.cds_changes.proofs.examples.kinds_change.Goals as goal

pub returns : goal.returns
returns c = (refl, refl, refl)
