use Rattle.cds_server.proofs.Accepting.{accepted-served}
use Rattle.cds_server.proofs.laws.accepted_are_served.Goals as goal

pub returns : goal.returns
returns c = accepted-served
