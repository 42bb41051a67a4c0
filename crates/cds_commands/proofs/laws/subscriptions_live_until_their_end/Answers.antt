use Rattle.cds_commands.proofs.Lives.{live-until}
use Rattle.cds_commands.proofs.laws.subscriptions_live_until_their_end.Goals as goal

pub returns : goal.returns
returns c = live-until
