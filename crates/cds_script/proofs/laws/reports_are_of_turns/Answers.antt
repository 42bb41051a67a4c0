use Rattle.cds_script.proofs.Played.{reports-of_turns}
use Rattle.cds_script.proofs.laws.reports_are_of_turns.Goals as goal

pub returns : goal.returns
returns c = reports-of_turns
