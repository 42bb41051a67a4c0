use Rattle.std.proofs.Common.{codes}
use Rattle.cds_object.specs.Writing.{text_element, number_element}
use Rattle.cds_soap.specs.Written.{slice_text}
use Rattle.cds_soap.proofs.Joined.{four}
use Rattle.cds_soap.proofs.request_text.put_slice.Goals as goal

pub returns : goal.returns
unfolding slice_text
returns c =
    four _ _ _ _ _ (text_element (codes "Filter") c.args.filter.now) (number_element (codes "StartingIndex") c.args.start)
    (number_element (codes "RequestedCount") c.args.count) (text_element (codes "SortCriteria") c.args.sort.now)
    c.in_ok-put_text.ensures c.in_ok-put_u32_element.ensures c.in_ok-put_u32_element-2.ensures c.in_ok-put_text-2.ensures
