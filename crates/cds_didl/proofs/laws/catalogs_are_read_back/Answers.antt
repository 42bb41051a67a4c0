use Rattle.cds_didl.proofs.CatalogBack.{catalogs-are-read-back}
use Rattle.cds_didl.proofs.laws.catalogs_are_read_back.Goals as goal

pub returns : goal.returns
returns c = catalogs-are-read-back
