use Rattle.std.proofs.Common.{refl}
use Rattle.cds_follow.proofs.examples.changes_are_not_counted_again.Goals as goal

pub returns : goal.returns
returns c = (refl, (refl, refl))
