use Rattle.cds_script.proofs.MayBe.{turns-may_be}
use Rattle.cds_script.proofs.laws.script_turns_may_be.Goals as goal

pub returns : goal.returns
returns c = turns-may_be
