use Rattle.cds_criteria.proofs.Keys.{read}
use Rattle.cds_criteria.proofs.laws.spelled_keys_are_read.Goals as goal

pub returns : goal.returns
returns c = read
