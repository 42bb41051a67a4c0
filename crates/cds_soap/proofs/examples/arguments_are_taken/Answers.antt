use Rattle.std.proofs.Common.{refl}
use Rattle.std.specs.Fmt.{digits}
use Rattle.cds_soap.specs.Names.{service_front, service_type}
use Rattle.cds_soap.specs.Given.{browse_given, search_given, action_given}
use Rattle.cds_soap.proofs.examples.arguments_are_taken.Goals as goal

pub returns : goal.returns
unfolding digits service_front service_type browse_given search_given action_given
returns c = (refl, refl, refl, refl, refl, refl, refl)
