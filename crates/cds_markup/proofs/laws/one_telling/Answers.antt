-- The law stands in the lemmas.
use Rattle.cds_markup.proofs.GivenLaws.{one-telling}
use Rattle.cds_markup.proofs.laws.one_telling.Goals as goal

pub returns : goal.returns
returns c = one-telling
