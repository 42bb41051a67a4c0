use Rattle.std.specs.Fmt.{digits}
use Rattle.cds_ssdp.specs.Targets.{device_type}
use Rattle.cds_ssdp.proofs.searching.is_device_type.Goals as goal

pub returns : goal.returns
unfolding digits device_type
returns c = c.is_any.ensures
