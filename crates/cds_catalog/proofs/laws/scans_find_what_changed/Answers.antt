use Rattle.cds_catalog.proofs.FoundAt.{scans_find_what_changed-proof}
use Rattle.cds_catalog.proofs.laws.scans_find_what_changed.Goals as goal

pub returns : goal.returns
returns c = scans_find_what_changed-proof
