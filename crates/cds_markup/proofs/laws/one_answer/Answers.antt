-- The law stands in the lemmas.
use Rattle.cds_markup.proofs.GivenLaws.{one-answer}
use Rattle.cds_markup.proofs.laws.one_answer.Goals as goal

pub returns : goal.returns
returns c = one-answer
