use Rattle.cds_script.proofs.Words.{any-bytes}
use Rattle.cds_script.proofs.laws.any_bytes_can_be_written.Goals as goal

pub returns : goal.returns
returns c = any-bytes
