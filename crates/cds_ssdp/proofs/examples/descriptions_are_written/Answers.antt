use Rattle.std.proofs.Common.{refl}
use Rattle.std.specs.Fmt.{digits}
use Rattle.uuid.specs.Text.{by_index}
use Rattle.cds_ssdp.specs.Targets.{device_name, device_type, service_type}
use Rattle.cds_ssdp.specs.Description.{device_front, device_back, device_text, service_text}
use Rattle.cds_ssdp.proofs.examples.descriptions_are_written.Goals as goal

pub returns : goal.returns
unfolding digits by_index device_name device_type service_type device_front device_back device_text service_text
returns c = (refl, refl)
