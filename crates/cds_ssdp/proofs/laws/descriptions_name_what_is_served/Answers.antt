use Rattle.cds_ssdp.proofs.Served.{is-described}
use Rattle.cds_ssdp.proofs.laws.descriptions_name_what_is_served.Goals as goal

pub returns : goal.returns
returns c = is-described
