use Rattle.cds_gena.proofs.Commands.{booked-end}
use Rattle.cds_gena.proofs.laws.ends_drop.Goals as goal

pub returns : goal.returns
returns c = λ start now number older. booked-end start older now number
