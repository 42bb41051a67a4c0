use Rattle.std.specs.Fmt.{digits}
use Rattle.cds_ssdp.specs.Targets.{device_type}
use Rattle.cds_ssdp.specs.Description.{device_front}
use Rattle.cds_ssdp.proofs.describing.put_front.Goals as goal

pub returns : goal.returns
unfolding digits device_type device_front
returns c = c.put.ensures
