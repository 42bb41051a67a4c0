use Rattle.cds_script.proofs.Stood.{turns-stand}
use Rattle.cds_script.proofs.laws.all_turns_stand_at_scan_ends.Goals as goal

pub returns : goal.returns
returns c = turns-stand
