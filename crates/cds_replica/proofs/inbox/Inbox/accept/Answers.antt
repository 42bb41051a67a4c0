use Rattle.std.proofs.Common.{false, Some, ◌∙◌, sym, ap, subst}
use Rattle.cds_replica.specs.Inboxed.{KeptInbox, IsInbox}
use Rattle.cds_replica.proofs.Waiting.{named-next, named-waiting, inbox-named}
use Rattle.cds_replica.proofs.inbox.Inbox.accept.Goals as goal

pub returns : goal.returns
returns c =
    let name = c.args.sid.0 in
    let kept = c.args.self.now in
    let next = named-next name c.run_end-next.result kept c.early.result.now c.run_end-next.ensures.end c.early.ensures in
    let early = ap (λ (k : KeptInbox). k.early) c.self.view_is in
    let waiting = named-waiting name c.run_end-next.result kept c.self.inside.early.items c.keep_behind.new.notes.items early next c.keep_behind.ensures in
    λ i. record {
      wrap = (c.self.view_is i).wrap;
      accepted = Some name;
      out = false;
      next = next i;
      waiting = (ap (λ v. v.items) c.swap.ensures.x_after ∙ waiting) i;
      early = (ap (λ v. v.items) c.swap.ensures.y_after ∙ c.clear.ensures.items) i;
    }

pub invariant_of-self : goal.invariant_of-self
invariant_of-self c =
    let name = c.args.sid.0 in
    let kept = c.args.self.now in
    let before : IsInbox kept = subst IsInbox c.self.view_is c.self.invariant in
    subst IsInbox (sym (returns c)) (inbox-named name kept before)
