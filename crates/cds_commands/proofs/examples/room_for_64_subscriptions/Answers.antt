use Rattle.std.proofs.Common.{refl}
use Rattle.cds_commands.proofs.examples.room_for_64_subscriptions.Goals as goal

pub returns : goal.returns
returns c = (refl, refl, refl, refl)
