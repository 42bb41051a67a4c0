use Rattle.cds_gena.proofs.Commands.{booked-grant}
use Rattle.cds_gena.proofs.laws.grants_make_one_more.Goals as goal

pub returns : goal.returns
returns c = λ start now callback seconds older some. booked-grant start older now callback seconds some
