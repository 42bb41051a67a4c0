use Rattle.std.proofs.Common.{refl}
use Rattle.std.specs.Fmt.{digits}
use Rattle.cds_soap.specs.Names.{service_front, service_type, soap_action}
use Rattle.cds_soap.proofs.examples.names_are_said.Goals as goal

pub returns : goal.returns
unfolding digits service_front service_type soap_action
returns c = (refl, refl)
