use Rattle.std.proofs.Common.{refl}
use Rattle.std.specs.Fmt.{digits}
use Rattle.uuid.specs.Text.{by_index}
use Rattle.cds_ssdp.specs.Targets.{device_name, root_device, device_type, service_type}
use Rattle.cds_ssdp.proofs.examples.targets_are_found.Goals as goal

pub returns : goal.returns
unfolding digits by_index device_name root_device device_type service_type
returns c = (refl, refl, refl, refl, refl, refl, refl, refl, refl, refl, refl, refl, refl, refl, refl, refl)
