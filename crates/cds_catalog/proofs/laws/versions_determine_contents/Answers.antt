use Rattle.cds_catalog.proofs.Versions.{versions_determine}
use Rattle.cds_catalog.proofs.laws.versions_determine_contents.Goals as goal

pub returns : goal.returns
returns c = versions_determine
