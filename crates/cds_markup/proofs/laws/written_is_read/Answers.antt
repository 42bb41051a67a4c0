-- The law stands in the lemmas.
use Rattle.cds_markup.proofs.DraftsForm.{written-is-read}
use Rattle.cds_markup.proofs.laws.written_is_read.Goals as goal

pub returns : goal.returns
returns c = written-is-read
