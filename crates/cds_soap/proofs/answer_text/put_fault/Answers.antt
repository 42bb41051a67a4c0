use Rattle.std.proofs.Common.{codes}
use Rattle.cds_object.specs.Writing.{text_element, number_element}
use Rattle.cds_soap.specs.Written.{fault_front, fault_end, fault_text, description}
use Rattle.cds_soap.proofs.Joined.{four}
use Rattle.cds_soap.proofs.answer_text.put_fault.Goals as goal

pub returns : goal.returns
unfolding fault_text
returns c =
    four _ _ _ _ _ fault_front (number_element (codes "errorCode") c.args.code) (text_element (codes "errorDescription") (description c.args.code)) fault_end
    c.in_ok-put_fault_front.ensures c.in_ok-put_code.ensures c.in_ok-put_description.ensures c.in_ok-put_fault_end.ensures
