use Rattle.std.proofs.Common.{refl}
use Rattle.std.specs.Fmt.{digits}
use Rattle.cds_browse.proofs.examples.lacking_parents_are_passed_over.Goals as goal

pub returns : goal.returns
unfolding digits
returns c = (refl, refl, refl, refl)
