-- The law stands in the lemmas.
use Rattle.cds_markup.proofs.GivenLaws.{all-is-told}
use Rattle.cds_markup.proofs.laws.all_is_told.Goals as goal

pub returns : goal.returns
returns c = all-is-told
