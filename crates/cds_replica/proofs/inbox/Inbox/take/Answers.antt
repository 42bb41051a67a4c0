use Rattle.std.proofs.Common.{sym, ap, subst}
use Rattle.cds_replica.specs.Inboxed.{KeptInbox, IsInbox}
use Rattle.cds_replica.proofs.Waiting.{next-waiting, inbox-next}
use Rattle.cds_replica.proofs.inbox.Inbox.take.Goals as goal

pub returns : goal.returns
returns c =
    let kept = c.args.self.now in
    let before : IsInbox kept = subst IsInbox c.self.view_is c.self.invariant in
    let waits = ap (λ (k : KeptInbox). k.waiting) c.self.view_is in
    let waiting = next-waiting c.args.note.now c.name.result.0 c.run_after-next.result kept c.self.inside.waiting.items c.keep_behind.new.notes.items before c.requires
    c.name.ensures waits c.run_after-next.ensures.after c.keep_behind.ensures in
    λ i. record {
      wrap = (c.self.view_is i).wrap;
      accepted = (c.self.view_is i).accepted;
      out = (c.self.view_is i).out;
      next = c.run_after-next.ensures.after i;
      waiting = waiting i;
      early = (c.self.view_is i).early;
    }

pub invariant_of-self : goal.invariant_of-self
invariant_of-self c =
    let kept = c.args.self.now in
    let before : IsInbox kept = subst IsInbox c.self.view_is c.self.invariant in
    subst IsInbox (sym (returns c)) (inbox-next c.args.note.now kept before c.requires)
