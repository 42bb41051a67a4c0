use Rattle.cds_generate.proofs.Played.{spoken}
use Rattle.cds_generate.proofs.laws.lines_are_turns.Goals as goal

pub returns : goal.returns
returns c = spoken
