use Rattle.std.proofs.Common.{◌∙◌}
use Rattle.cds_replica.specs.Inboxed.{run_end, of_name}
use Rattle.cds_replica.proofs.Waiting.{run-after}
use Rattle.cds_replica.proofs.inbox.Inbox.run_after.Goals as goal

pub returns : goal.returns
returns c = record {
  after =
      c.run_end.ensures.end ∙ (λ i. run_end (c.next_place.ensures.next i) (of_name (c.name.ensures i) (c.waiting.ensures.waiting i)))
      ∙ run-after c.args.note.now c.args.self.now c.waiting.ensures.facts c.requires;
}
