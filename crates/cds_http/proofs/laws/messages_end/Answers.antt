use Rattle.cds_http.proofs.Backwards.{messages_end}
use Rattle.cds_http.proofs.laws.messages_end.Goals as goal

pub returns : goal.returns
returns c = messages_end
