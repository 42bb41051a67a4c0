use Rattle.cds_script.proofs.Bounded.{turns-bound_loads}
use Rattle.cds_script.proofs.laws.all_turns_bound_loads.Goals as goal

pub returns : goal.returns
returns c = turns-bound_loads
