use Rattle.std.proofs.Common.{refl}
use Rattle.std.specs.Fmt.{digits}
use Rattle.cds_object.specs.Fragment.{duration_text, seconds_text}
use Rattle.cds_criteria.proofs.examples.criteria_are_met.Goals as goal

pub returns : goal.returns
unfolding digits duration_text seconds_text
returns c = (refl, refl, refl, refl, refl, refl, refl, refl, refl, refl, refl, refl, refl, refl, refl, refl, refl, refl, refl, refl, refl, refl, refl, refl, refl, refl, refl, refl, refl, refl)
