use Rattle.cds_lastchange.proofs.WrittenRead.{written-read}
use Rattle.cds_lastchange.proofs.laws.written_is_read.Goals as goal

pub returns : goal.returns
returns c = written-read
