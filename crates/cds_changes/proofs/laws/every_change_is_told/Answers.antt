use Rattle.cds_changes.proofs.Numbers.{all-numbers}
use Rattle.cds_changes.proofs.laws.every_change_is_told.Goals as goal

pub returns : goal.returns
returns c = all-numbers
