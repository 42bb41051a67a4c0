-- The law stands in the lemmas.
use Rattle.cds_markup.proofs.Readings.{every-cutting}
use Rattle.cds_markup.proofs.laws.every_cutting.Goals as goal

pub returns : goal.returns
returns c = every-cutting
