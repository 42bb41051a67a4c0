use Rattle.std.proofs.Common.{codes}
use Rattle.cds_object.specs.Writing.{text_element}
use Rattle.cds_soap.specs.Written.{search_text, slice_text}
use Rattle.cds_soap.proofs.Joined.{three}
use Rattle.cds_soap.proofs.request_text.put_search.Goals as goal

pub returns : goal.returns
unfolding search_text
returns c =
    let request = c.args.request.now in
    three _ _ _ _ (text_element (codes "ContainerID") request.container) (text_element (codes "SearchCriteria") request.criteria)
    (slice_text request.filter request.start request.count request.sort)
    c.in_ok-put_text.ensures c.in_ok-put_text-2.ensures c.in_ok-put_slice.ensures
