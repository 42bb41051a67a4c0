use Rattle.std.proofs.Common.{refl}
use Rattle.cds_changes.proofs.examples.what_comes_and_goes.Goals as goal

pub returns : goal.returns
returns c = (refl, refl, refl)
