use Rattle.cds_catalog.proofs.Numbers.{catalog_at_end}
use Rattle.cds_catalog.proofs.laws.catalog_at_a_scan_end.Goals as goal

pub returns : goal.returns
returns c = catalog_at_end
