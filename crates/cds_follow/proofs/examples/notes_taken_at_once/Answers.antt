use Rattle.std.proofs.Common.{refl}
use Rattle.cds_follow.proofs.examples.notes_taken_at_once.Goals as goal

pub returns : goal.returns
returns c = (refl, refl, refl, refl, refl, refl, refl, refl)
