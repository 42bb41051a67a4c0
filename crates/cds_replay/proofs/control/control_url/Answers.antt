use Rattle.cds_replay.proofs.Asked.{control-is}
use Rattle.cds_replay.proofs.control.control_url.Goals as goal

pub returns-in-Ok : goal.returns-in-Ok
returns-in-Ok c = control-is c.in-Ok.url c.in-Ok.ensures
