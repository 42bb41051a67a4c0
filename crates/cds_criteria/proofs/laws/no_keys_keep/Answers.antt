use Rattle.cds_criteria.proofs.Unique.{none_keep}
use Rattle.cds_criteria.proofs.laws.no_keys_keep.Goals as goal

pub returns : goal.returns
returns c = none_keep
