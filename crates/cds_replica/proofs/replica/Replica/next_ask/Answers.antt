use Rattle.std.proofs.Common.{ap, ◌∙◌}
use Rattle.cds_replica.specs.Steps.{phase_ask}
use Rattle.cds_replica.specs.State.{ReplicaState}
use Rattle.cds_replica.proofs.Keeping.{ask-kept}
use Rattle.cds_replica.proofs.Attempted.{asks-by_attempt}
use Rattle.cds_replica.proofs.replica.Replica.next_ask.Goals as goal

pub returns-clause-next : goal.returns-clause-next
returns-clause-next c wrap turns stood = c.next_ask.ensures ∙ ap (λ (kept : ReplicaState). phase_ask kept.known.phase) (c.self.view_is ∙ stood) ∙ ask-kept wrap turns

pub returns-clause-attempt : goal.returns-clause-attempt
returns-clause-attempt c = asks-by_attempt c.args.self.now c.next_ask.result (returns-clause-next c)
