use Rattle.std.proofs.Common.{refl}
use Rattle.cds_criteria.proofs.examples.long_texts_are_refused.Goals as goal

pub returns : goal.returns
returns c = (refl, refl, refl, refl, refl, refl)
