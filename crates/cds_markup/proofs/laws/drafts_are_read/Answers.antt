use Rattle.cds_markup.proofs.DraftsForm.{drafts-are-read}
use Rattle.cds_markup.proofs.laws.drafts_are_read.Goals as goal

pub returns : goal.returns
returns c = drafts-are-read
