use Rattle.std.proofs.Common.{map, ap, ◌∙◌}
use Rattle.std.specs.List.{filter_map}
use Rattle.cds_follow.specs.Copy.{shown_row}
use Rattle.cds_replica.specs.CopyState.{KeptRow}
use Rattle.cds_replica.specs.Steps.{phase_all}
use Rattle.cds_replica.specs.State.{ReplicaState}
use Rattle.cds_replica.proofs.Attempted.{copies-by_attempt}
use Rattle.cds_replica.proofs.Keeping.{all-kept}
use Rattle.cds_replica.proofs.replica.Replica.copy.Goals as goal

pub returns-clause-rows : goal.returns-clause-rows
returns-clause-rows c wrap turns stood =
    ap (filter_map shown_row) (c.rows.ensures ∙ ap (λ (kept : ReplicaState). phase_all kept.known.phase) (c.self.view_is ∙ stood)) ∙ all-kept wrap turns

pub returns-clause-attempt : goal.returns-clause-attempt
returns-clause-attempt c =
    copies-by_attempt c.args.self.now (map (λ (kept : KeptRow). kept.row) c.rows.result.now) (c.rows.ensures ∙ ap (λ (kept : ReplicaState). phase_all kept.known.phase) c.self.view_is)
