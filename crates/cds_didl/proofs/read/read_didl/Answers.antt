use Rattle.cds_didl.proofs.Refused.{refused}
use Rattle.cds_didl.proofs.read.read_didl.Goals as goal

pub returns : goal.returns
returns c = refused _ _ c.in-Ok.ensures.0.0 _ c.in-Err-rows_said.ensures _ c.refusal_of.ensures
