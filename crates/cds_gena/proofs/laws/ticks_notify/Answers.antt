use Rattle.cds_gena.proofs.Commands.{booked-release, notes-counted}
use Rattle.cds_gena.proofs.laws.ticks_notify.Goals as goal

pub returns : goal.returns
returns c = λ start now older release some comes. (booked-release start older now release some comes, notes-counted start now older release comes)
