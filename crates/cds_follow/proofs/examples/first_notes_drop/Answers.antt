use Rattle.std.proofs.Common.{refl}
use Rattle.cds_follow.proofs.examples.first_notes_drop.Goals as goal

pub returns : goal.returns
returns c = (refl, (refl, refl), (refl, refl), (refl, refl), refl, refl, refl, refl)
