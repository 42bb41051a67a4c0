use Rattle.cds_gena.proofs.Commands.{booked-silent}
use Rattle.cds_gena.proofs.laws.ticks_expire.Goals as goal

pub returns : goal.returns
returns c = λ start now older none. booked-silent start older now none
