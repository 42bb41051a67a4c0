use Rattle.std.proofs.Common.{refl}
use Rattle.std.specs.Fmt.{digits}
use Rattle.cds_summary.proofs.examples.no_lines.Goals as goal

pub returns : goal.returns
unfolding digits
returns c = refl
