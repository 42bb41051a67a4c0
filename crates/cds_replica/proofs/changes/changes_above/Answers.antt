use Rattle.std.proofs.Common.{◌≡◌, rules, sym, subst}
use Rattle.cds_commands.specs.Notes.{changes_above}
use Rattle.cds_replica.specs.CopyState.{AreAbove}
use Rattle.cds_replica.proofs.KeptTurns.{above-filter}
use Rattle.cds_replica.proofs.changes.changes_above.Goals as goal

pub returns-clause-above : goal.returns-clause-above
returns-clause-above c =
    let same : c.add_changes_above.new.changes.items ≡ changes_above c.args.number c.args.events.now = search rules in
    subst (AreAbove c.args.number) (sym same) (above-filter c.args.number c.args.events.now)
