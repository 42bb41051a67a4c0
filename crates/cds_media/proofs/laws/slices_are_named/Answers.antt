use Rattle.cds_media.proofs.Slices.{named}
use Rattle.cds_media.proofs.laws.slices_are_named.Goals as goal

pub returns : goal.returns
returns c = named
