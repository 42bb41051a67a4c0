use Rattle.cds_follow.proofs.TakenOnce.{taken-once}
use Rattle.cds_follow.proofs.laws.each_note_is_taken_once.Goals as goal

pub returns : goal.returns
returns c = taken-once
