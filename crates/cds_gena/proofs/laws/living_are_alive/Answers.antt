use Rattle.cds_gena.proofs.Commands.{names-alive, number-alive}
use Rattle.cds_gena.proofs.laws.living_are_alive.Goals as goal

pub returns : goal.returns
returns c = λ start now commands. (names-alive start now commands, number-alive start now commands)
