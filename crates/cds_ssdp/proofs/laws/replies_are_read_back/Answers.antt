use Rattle.cds_ssdp.proofs.ReadBack.{replies-read-back}
use Rattle.cds_ssdp.proofs.laws.replies_are_read_back.Goals as goal

pub returns : goal.returns
returns c = replies-read-back
