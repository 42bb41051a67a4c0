use Rattle.std.proofs.Common.{ap, ◌∙◌}
use Rattle.std.specs.Prelude.{List, slice_get}
use Rattle.cds_object.specs.Object.{ObjectRow}
use Rattle.cds_replica.specs.Steps.{phase_rows}
use Rattle.cds_replica.specs.State.{ReplicaState}
use Rattle.cds_replica.proofs.Keeping.{rows-kept}
use Rattle.cds_replica.proofs.Attempted.{rows-shown}
use Rattle.cds_replica.proofs.ShownIn.{rows-replied}
use Rattle.cds_replica.proofs.replica.Replica.rows.Goals as goal

pub returns-clause-row : goal.returns-clause-row
returns-clause-row c wrap turns stood =
    c.row.ensures ∙ ap (λ (rows : List ObjectRow). slice_get rows c.args.at) (ap (λ (kept : ReplicaState). phase_rows kept.known.phase) (c.self.view_is ∙ stood) ∙ rows-kept wrap turns)

pub returns-clause-shown : goal.returns-clause-shown
returns-clause-shown c wrap turns stood = rows-shown c.args.self.now c.args.at c.row.result wrap turns (returns-clause-row c) stood

pub returns-clause-replied : goal.returns-clause-replied
returns-clause-replied c = rows-replied c.args.self.now c.args.at c.row.result (returns-clause-row c)
