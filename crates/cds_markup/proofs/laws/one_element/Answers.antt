-- The law stands in the lemmas.
use Rattle.cds_markup.proofs.GivenLaws.{one-element}
use Rattle.cds_markup.proofs.laws.one_element.Goals as goal

pub returns : goal.returns
returns c = one-element
