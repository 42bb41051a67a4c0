use Rattle.cds_exchange.proofs.Moments.{moments-can-be-shown}
use Rattle.cds_exchange.proofs.laws.moments_can_be_shown.Goals as goal

pub returns : goal.returns
returns c = moments-can-be-shown
