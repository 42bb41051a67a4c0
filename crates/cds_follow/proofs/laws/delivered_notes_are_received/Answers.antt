use Rattle.cds_follow.proofs.Delivered.{delivered-are-received}
use Rattle.cds_follow.proofs.laws.delivered_notes_are_received.Goals as goal

pub returns : goal.returns
returns c = delivered-are-received
