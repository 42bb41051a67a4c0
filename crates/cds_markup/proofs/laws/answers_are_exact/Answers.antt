-- The law stands in the lemmas.
use Rattle.cds_markup.proofs.GivenLaws.{exact}
use Rattle.cds_markup.proofs.laws.answers_are_exact.Goals as goal

pub returns : goal.returns
returns c = exact
