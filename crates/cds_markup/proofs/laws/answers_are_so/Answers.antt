-- The law stands in the lemmas.
use Rattle.cds_markup.proofs.GivenLaws.{verdict}
use Rattle.cds_markup.proofs.laws.answers_are_so.Goals as goal

pub returns : goal.returns
returns c = verdict
