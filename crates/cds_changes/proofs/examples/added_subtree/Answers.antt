use Rattle.std.proofs.Common.{refl}
use Rattle.cds_changes.proofs.examples.added_subtree.Goals as goal

pub returns : goal.returns
returns c = (refl, refl)
