use Rattle.cds_catalog.proofs.Between.{numbers_lie_between-proof}
use Rattle.cds_catalog.proofs.laws.numbers_lie_between.Goals as goal

pub returns : goal.returns
returns c = numbers_lie_between-proof
