use Rattle.std.specs.Fmt.{digits}
use Rattle.cds_ssdp.specs.Targets.{service_type}
use Rattle.cds_ssdp.specs.Description.{device_back}
use Rattle.cds_ssdp.proofs.describing.put_back.Goals as goal

pub returns : goal.returns
unfolding digits service_type device_back
returns c = c.put.ensures
