use Rattle.cds_generate.proofs.Sizes.{short}
use Rattle.cds_generate.proofs.laws.scripts_are_short.Goals as goal

pub returns : goal.returns
returns c = short
