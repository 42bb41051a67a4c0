use Rattle.cds_script.proofs.Delivered.{delivered-received}
use Rattle.cds_script.proofs.laws.delivered_notes_are_received.Goals as goal

pub returns : goal.returns
returns c = delivered-received
