use Rattle.std.proofs.Common.{◌≡◌, rules, sym, subst}
use Rattle.cds_replica.specs.CopyState.{AreAbove}
use Rattle.cds_replica.specs.Inboxed.{taken_early}
use Rattle.cds_replica.specs.NewChanges.{KeptChanges, nothing_told, tells}
use Rattle.cds_replica.proofs.KeptTurns.{new-above}
use Rattle.cds_replica.proofs.inbox.Inbox.told_early.Goals as goal

pub returns-clause-above : goal.returns-clause-above
returns-clause-above c =
    let told : c.add_run.new.self ≡ tells (taken_early c.args.sid.0 c.args.self.now) (nothing_told c.args.position c.args.last_note) = search rules in
    subst (λ (told : KeptChanges). AreAbove c.args.position told.changes) (sym told) (new-above c.args.position (taken_early c.args.sid.0 c.args.self.now))
