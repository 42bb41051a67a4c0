use Rattle.cds_media.proofs.Spelling.{spelled}
use Rattle.cds_media.proofs.laws.ranges_are_spelled.Goals as goal

pub returns : goal.returns
returns c = spelled
