use Rattle.cds_script.proofs.Words.{plain_words-stand}
use Rattle.cds_script.proofs.laws.plain_words_stand_for_themselves.Goals as goal

pub returns : goal.returns
returns c = plain_words-stand
