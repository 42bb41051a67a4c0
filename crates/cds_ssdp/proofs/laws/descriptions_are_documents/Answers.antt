use Rattle.cds_ssdp.proofs.Documents.{descriptions-are-documents}
use Rattle.cds_ssdp.proofs.laws.descriptions_are_documents.Goals as goal

pub returns : goal.returns
returns c = descriptions-are-documents
