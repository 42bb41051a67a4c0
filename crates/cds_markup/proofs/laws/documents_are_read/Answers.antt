-- The law stands in the lemmas.
use Rattle.cds_markup.proofs.Readings.{documents-are-read}
use Rattle.cds_markup.proofs.laws.documents_are_read.Goals as goal

pub returns : goal.returns
returns c = documents-are-read
