use Rattle.cds_gena.proofs.Commands.{booked-renewal}
use Rattle.cds_gena.proofs.laws.renewals_put_off.Goals as goal

pub returns : goal.returns
returns c = λ start now number seconds older. booked-renewal start older now number seconds
