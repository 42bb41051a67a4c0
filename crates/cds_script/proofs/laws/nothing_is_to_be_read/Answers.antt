use Rattle.cds_script.proofs.Delivered.{nothing-read}
use Rattle.cds_script.proofs.laws.nothing_is_to_be_read.Goals as goal

pub returns : goal.returns
returns c = nothing-read
