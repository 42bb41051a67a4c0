-- The rows are computed.
use Rattle.std.proofs.Common.{refl}
use Rattle.std.specs.Fmt.{digits}
use Rattle.cds_markup.proofs.examples.written_rows.Goals as goal

pub returns : goal.returns
unfolding digits
returns c = (refl, refl, refl, refl)
