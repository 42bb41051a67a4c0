use Rattle.std.proofs.Common.{◌∙◌, sym, ap}
use Rattle.cds_commands.specs.Notes.{Note, note_of}
use Rattle.std.specs.Prelude.{List}
use Rattle.cds_replica.specs.Inboxed.{of_name}
use Rattle.cds_replica.specs.NewChanges.{drops_first}
use Rattle.cds_replica.proofs.Waiting.{drop-first}
use Rattle.cds_replica.proofs.inbox.Inbox.drops_early.Goals as goal

pub returns : goal.returns
returns c =
    c.drops.ensures
    ∙ ap (drops_first c.args.position) (c.note_of.ensures.note ∙ ap (λ (notes : List Note). note_of 0 (of_name c.args.sid.0 notes)) c.early.ensures)
    ∙ sym (drop-first c.args.position (of_name c.args.sid.0 c.args.self.now.early))
