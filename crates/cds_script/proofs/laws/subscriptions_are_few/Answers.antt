use Rattle.cds_script.proofs.Living.{subscriptions-few}
use Rattle.cds_script.proofs.laws.subscriptions_are_few.Goals as goal

pub returns : goal.returns
returns c = subscriptions-few
