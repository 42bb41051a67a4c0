use Rattle.cds_didl.proofs.Plain.{contents-are-plain}
use Rattle.cds_didl.proofs.laws.contents_are_plain.Goals as goal

pub returns : goal.returns
returns c = contents-are-plain
