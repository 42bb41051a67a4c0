-- The law stands in the lemmas.
use Rattle.cds_markup.proofs.EachPart.{parts-begin}
use Rattle.cds_markup.proofs.laws.parts_begin.Goals as goal

pub returns : goal.returns
returns c = parts-begin
