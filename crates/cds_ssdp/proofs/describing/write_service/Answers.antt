use Rattle.cds_ssdp.specs.Description.{service_text}
use Rattle.cds_ssdp.proofs.describing.write_service.Goals as goal

pub returns-clause-ok : goal.returns-clause-ok
unfolding service_text
returns-clause-ok c = c.in_ok-extend_from_slice.ensures.items
