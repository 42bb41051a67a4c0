use Rattle.cds_gena.proofs.Commands.{booked-scan, booked-stop}
use Rattle.cds_gena.proofs.laws.other_commands_change_nothing.Goals as goal

pub returns : goal.returns
returns c = λ start older. (booked-scan start older, booked-stop start older)
