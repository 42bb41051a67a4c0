use Rattle.cds_media.proofs.Exact.{four-cases}
use Rattle.cds_media.proofs.laws.plans_have_four_cases.Goals as goal

pub returns : goal.returns
returns c = four-cases
