use Rattle.cds_object.proofs.Cleans.{cleaning}
use Rattle.cds_object.proofs.laws.texts_are_cleaned.Goals as goal

pub returns : goal.returns
returns c = cleaning
