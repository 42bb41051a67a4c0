use Rattle.cds_gena.proofs.Leases.{others-grant-nothing}
use Rattle.cds_gena.proofs.laws.others_grant_nothing.Goals as goal

pub returns : goal.returns
returns c = others-grant-nothing
