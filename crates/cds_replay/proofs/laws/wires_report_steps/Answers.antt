use Rattle.cds_replay.proofs.Steps.{reports-steps}
use Rattle.cds_replay.proofs.laws.wires_report_steps.Goals as goal

pub returns : goal.returns
returns c = reports-steps
