use Rattle.std.proofs.Common.{◌∷◌, ◌∙◌, sym, ap, subst}
use Rattle.cds_commands.specs.Notes.{notes_from_to}
use Rattle.cds_replica.specs.Inboxed.{of_name, run_after, followers}
use Rattle.cds_replica.specs.NewChanges.{KeptChanges, nothing_told, tells, tells_note}
use Rattle.cds_replica.specs.CopyState.{AreAbove}
use Rattle.cds_replica.proofs.KeptTurns.{new-above}
use Rattle.cds_replica.proofs.Waiting.{told-by, run-after}
use Rattle.cds_replica.proofs.inbox.Inbox.told_by.Goals as goal

pub returns-clause-told : goal.returns-clause-told
returns-clause-told c =
    let note = c.args.note.now in
    let kept = c.args.self.now in
    let first = c.in_ok-add.ensures ∙ ap (tells_note note) c.new-told.ensures in
    let ends = run-after note kept c.waiting.ensures.facts c.requires in
    c.in_ok-add_run.ensures
    ∙ (λ i. tells (notes_from_to (c.next_place.ensures.next i) (c.run_after-to.ensures.after i) (of_name (c.name.ensures i) (c.waiting.ensures.waiting i))) (first i))
    ∙ told-by note kept (run_after kept) (nothing_told c.args.position c.args.last_note) c.waiting.ensures.facts c.requires (sym ends)

pub returns-clause-above : goal.returns-clause-above
returns-clause-above c =
    subst (λ (told : KeptChanges). AreAbove c.args.position told.changes) (sym (returns-clause-told c)) (new-above c.args.position (c.args.note.now ∷ followers c.args.self.now))
