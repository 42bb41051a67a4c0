use Rattle.cds_follow.proofs.Premises.{accepted, given, apart}
use Rattle.cds_follow.proofs.examples.premises_hold.Goals as goal

pub returns : goal.returns
returns c = (accepted, given, apart)
