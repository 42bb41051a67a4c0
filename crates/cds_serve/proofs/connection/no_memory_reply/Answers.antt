use Rattle.std.proofs.Common.{refl}
use Rattle.std.specs.Fmt.{digits}
use Rattle.cds_object.specs.Writing.{number_element, text_element}
use Rattle.cds_soap.specs.Written.{envelope_end, envelope_start, fault_end, fault_front, fault_text}
use Rattle.cds_serve.proofs.connection.no_memory_reply.Goals as goal

pub returns : goal.returns
unfolding digits number_element text_element envelope_start envelope_end fault_front fault_end fault_text
returns c = refl
