-- The law stands in the lemmas.
use Rattle.cds_markup.proofs.GivenLaws.{nothing-counts-past-the-limit}
use Rattle.cds_markup.proofs.laws.nothing_counts_past_the_limit.Goals as goal

pub returns : goal.returns
returns c = nothing-counts-past-the-limit
