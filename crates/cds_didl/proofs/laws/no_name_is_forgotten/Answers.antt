use Rattle.cds_didl.proofs.Forgotten.{no-name-is-forgotten}
use Rattle.cds_didl.proofs.laws.no_name_is_forgotten.Goals as goal

pub returns : goal.returns
returns c = no-name-is-forgotten
