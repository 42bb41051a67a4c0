use Rattle.cds_catalog.proofs.StepsCatalog.{steps_lead_to_the_catalog-proof}
use Rattle.cds_catalog.proofs.laws.steps_lead_to_the_catalog.Goals as goal

pub returns : goal.returns
returns c = steps_lead_to_the_catalog-proof
