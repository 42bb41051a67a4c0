use Rattle.cds_http.proofs.SpelledForms.{whole_is_spelled}
use Rattle.cds_http.proofs.laws.whole_is_spelled.Goals as goal

pub returns : goal.returns
returns c = whole_is_spelled
