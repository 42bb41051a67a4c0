use Rattle.cds_lastchange.proofs.Documents.{are-documents}
use Rattle.cds_lastchange.proofs.laws.state_events_are_documents.Goals as goal

pub returns : goal.returns
returns c = are-documents
