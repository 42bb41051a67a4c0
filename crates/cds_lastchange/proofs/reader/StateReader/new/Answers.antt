use Rattle.cds_lastchange.proofs.Feeding.{nothing-read}
use Rattle.cds_lastchange.proofs.reader.StateReader.new.Goals as goal

pub returns : goal.returns
returns c = nothing-read c.in_ok-new.field-0 c.new-2.result c.new-2.ensures c.in_ok-new.ensures
