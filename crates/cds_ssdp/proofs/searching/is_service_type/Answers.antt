use Rattle.std.specs.Fmt.{digits}
use Rattle.cds_ssdp.specs.Targets.{service_type}
use Rattle.cds_ssdp.proofs.searching.is_service_type.Goals as goal

pub returns : goal.returns
unfolding digits service_type
returns c = c.is_any.ensures
