use Rattle.std.proofs.Common.{refl}
use Rattle.cds_follow.proofs.examples.notes_on_the_wire.Goals as goal

pub returns : goal.returns
returns c = (refl, refl, refl, refl, refl, refl, refl, refl, refl, refl, refl)
