use Rattle.std.proofs.Common.{refl}
use Rattle.std.specs.Fmt.{digits}
use Rattle.cds_soap.specs.Names.{service_front, service_type}
use Rattle.cds_soap.specs.Envelope.{envelope_space, in_envelope}
use Rattle.cds_soap.proofs.examples.envelopes_are_opened.Goals as goal

pub returns : goal.returns
unfolding digits service_front service_type envelope_space in_envelope
returns c = (refl, refl, refl, refl, refl, refl, refl, refl, refl, refl, refl)
