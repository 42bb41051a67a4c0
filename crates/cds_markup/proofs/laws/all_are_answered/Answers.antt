-- The law stands in the lemmas.
use Rattle.cds_markup.proofs.GivenLaws.{all-are-answered}
use Rattle.cds_markup.proofs.laws.all_are_answered.Goals as goal

pub returns : goal.returns
returns c = all-are-answered
