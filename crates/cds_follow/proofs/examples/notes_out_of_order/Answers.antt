use Rattle.std.proofs.Common.{refl}
use Rattle.cds_follow.proofs.examples.notes_out_of_order.Goals as goal

pub returns : goal.returns
returns c = (refl, refl, refl, (refl, refl))
