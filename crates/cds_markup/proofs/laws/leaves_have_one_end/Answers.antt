-- The law stands in the lemmas.
use Rattle.cds_markup.proofs.GivenLaws.{leaves-have-one-end}
use Rattle.cds_markup.proofs.laws.leaves_have_one_end.Goals as goal

pub returns : goal.returns
returns c = leaves-have-one-end
