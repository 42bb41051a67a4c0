use Rattle.cds_script.proofs.WordLaws.{of_pieces-law}
use Rattle.cds_script.proofs.laws.words_are_of_pieces.Goals as goal

-- src/laws.rt
pub returns : goal.returns
returns c = of_pieces-law
