use Rattle.cds_catalog.proofs.Numbers.{same_map_no_change, same_scan_keeps}
use Rattle.cds_catalog.proofs.laws.equal_libraries_make_no_change.Goals as goal

pub returns : goal.returns
returns c = (same_map_no_change, same_scan_keeps)
