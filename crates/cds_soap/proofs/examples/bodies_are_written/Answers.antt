use Rattle.std.proofs.Common.{refl}
use Rattle.std.specs.Fmt.{digits}
use Rattle.cds_soap.specs.Names.{service_front, service_type}
use Rattle.cds_object.specs.Writing.{text_element, number_element}
use Rattle.cds_soap.specs.Written.{envelope_start, envelope_end, service_start, service_end, slice_text, browse_text, fault_front, fault_end, fault_text}
use Rattle.cds_soap.proofs.examples.bodies_are_written.Goals as goal

pub returns : goal.returns
unfolding digits service_front service_type text_element number_element envelope_start envelope_end service_start service_end slice_text browse_text fault_front fault_end fault_text
returns c = (refl, refl, refl, refl, refl)
