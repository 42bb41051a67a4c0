use Rattle.cds_moderator.proofs.Moderated.{others}
use Rattle.cds_moderator.proofs.laws.other_commands_change_nothing.Goals as goal

pub returns : goal.returns
returns c = others
