use Rattle.cds_script.proofs.Given.{scripts-given}
use Rattle.cds_script.proofs.laws.scripts_are_given.Goals as goal

pub returns : goal.returns
returns c = scripts-given
