use Rattle.std.proofs.Common.{refl}
use Rattle.std.specs.Fmt.{digits}
use Rattle.uuid.specs.Text.{by_index}
use Rattle.cds_serve.proofs.examples.lives_are_written.Goals as goal

pub returns : goal.returns
unfolding digits by_index
returns c = (refl, refl, refl, refl, refl, refl, refl, refl, refl, refl, refl)
