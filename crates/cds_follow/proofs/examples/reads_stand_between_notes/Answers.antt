use Rattle.std.proofs.Common.{refl}
use Rattle.cds_follow.proofs.examples.reads_stand_between_notes.Goals as goal

pub returns : goal.returns
returns c = (refl, refl, refl, refl)
