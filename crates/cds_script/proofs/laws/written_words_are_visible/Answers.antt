use Rattle.cds_script.proofs.WordLaws.{all-visible}
use Rattle.cds_script.proofs.laws.written_words_are_visible.Goals as goal

-- src/laws.rt
pub returns : goal.returns
returns c = all-visible
