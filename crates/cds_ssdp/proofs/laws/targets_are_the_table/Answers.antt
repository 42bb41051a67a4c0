use Rattle.cds_ssdp.proofs.Table.{targets-are-the-table}
use Rattle.cds_ssdp.proofs.laws.targets_are_the_table.Goals as goal

pub returns : goal.returns
returns c = targets-are-the-table
