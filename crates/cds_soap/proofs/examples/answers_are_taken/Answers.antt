use Rattle.std.proofs.Common.{refl}
use Rattle.std.specs.Fmt.{digits}
use Rattle.cds_soap.specs.Names.{service_front, service_type}
use Rattle.cds_soap.specs.Envelope.{envelope_space}
use Rattle.cds_soap.specs.Given.{page_given}
use Rattle.cds_soap.specs.Answered.{control_space, code_in}
use Rattle.cds_soap.proofs.examples.answers_are_taken.Goals as goal

pub returns : goal.returns
unfolding digits service_front service_type envelope_space page_given control_space code_in
returns c = (refl, refl, refl, refl, refl, refl, refl, refl, refl, refl)
