use Rattle.std.proofs.Common.{refl}
use Rattle.uuid.specs.Text.{by_index}
use Rattle.cds_ssdp.specs.Targets.{device_name}
use Rattle.cds_ssdp.proofs.examples.targets_are_named.Goals as goal

pub returns : goal.returns
unfolding by_index device_name
returns c = (refl, refl, refl, refl)
