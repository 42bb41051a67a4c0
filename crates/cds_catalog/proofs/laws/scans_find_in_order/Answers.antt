use Rattle.cds_catalog.proofs.FoundAt.{scans_find_in_order-proof}
use Rattle.cds_catalog.proofs.laws.scans_find_in_order.Goals as goal

pub returns : goal.returns
returns c = scans_find_in_order-proof
