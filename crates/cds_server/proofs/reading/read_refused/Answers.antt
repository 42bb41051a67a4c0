use Rattle.cds_server.proofs.Asks.{status-asks}
use Rattle.cds_server.proofs.reading.read_refused.Goals as goal

pub returns : goal.returns
returns c = status-asks c.args.message.now c.args.status _ c.in_ok-text.ensures
