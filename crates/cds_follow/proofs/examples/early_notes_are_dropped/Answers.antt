use Rattle.std.proofs.Common.{refl}
use Rattle.cds_follow.proofs.examples.early_notes_are_dropped.Goals as goal

pub returns : goal.returns
returns c = (refl, refl, refl, refl, refl, refl)
