use Rattle.std.proofs.Common.{ap, subst}
use Rattle.cds_replica.specs.Inboxed.{IsInbox}
use Rattle.cds_replica.specs.State.{ReplicaState}
use Rattle.cds_replica.proofs.Turning.{holds-few}
use Rattle.cds_replica.proofs.replica.Replica.facts.Goals as goal

pub returns : goal.returns
returns c = holds-few c.args.self.now (subst IsInbox (ap (λ (kept : ReplicaState). kept.inbox) c.self.view_is) c.facts.ensures)
