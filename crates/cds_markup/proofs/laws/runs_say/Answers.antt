-- The law stands in the lemmas.
use Rattle.cds_markup.proofs.ToldBytes.{runs-say}
use Rattle.cds_markup.proofs.laws.runs_say.Goals as goal

pub returns : goal.returns
returns c = runs-say
