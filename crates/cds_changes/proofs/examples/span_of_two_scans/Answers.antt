use Rattle.std.proofs.Common.{refl}
use Rattle.cds_changes.proofs.examples.span_of_two_scans.Goals as goal

pub returns : goal.returns
returns c = (refl, refl)
