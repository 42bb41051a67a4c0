-- The reply that was held back: none, a refusal, or a name.
use Rattle.std.proofs.Common.{◌≡◌, ap, sym, subst, ◌∙◌, Some, Ok, string_bytes}
use Rattle.cds_replica.specs.State.{ReplicaState}
use Rattle.cds_script.specs.declared.turn.ScriptTurn.TheVariants.{Accept}
use Rattle.cds_replay.specs.Events.{HasSomeStatus}
use Rattle.cds_replay.specs.Session.{Playing, IsAfter, IsHeldAs, QuietTaken}
use Rattle.cds_replay.specs.Wired.{played_by}
use Rattle.cds_replay.specs.declared.last.Last.TheVariants.{Other}
use Rattle.cds_replay.proofs.Apart.{out-named}
use Rattle.cds_replay.proofs.EventReads.{held-has}
use Rattle.cds_replay.proofs.Taking.{held-turn, none-turn}
use Rattle.cds_replay.proofs.Waits.{reply-waits}
use Rattle.cds_replay.proofs.session.Session.accept.Goals as goal

pub take_lease-requires-clause-reply : goal.take_lease-requires-clause-reply
take_lease-requires-clause-reply c =
    let steps = c.requires.0 in
    let was : Playing = record { server = c.self.inside.server; replica = c.self.inside.replica; sent = c.self.inside.sent; found = c.self.inside.found; clock = c.self.inside.clock; reply = c.self.inside.reply; last = c.self.inside.last; wrap = c.self.inside.wrap } in
    let old : IsAfter was steps = subst (λ p. IsAfter p steps) (sym c.self.view_is) c.requires.1 in
    subst HasSomeStatus (sym c.as_slice.ensures)
    (held-has c.in-Some.reply (played_by steps).reply (subst (λ r. IsHeldAs r (played_by steps).reply) (sym c.replace.ensures.value ∙ c.in-Some.is) old.reply))

pub take_lease-requires-clause-out : goal.take_lease-requires-clause-out
take_lease-requires-clause-out c =
    let steps = c.requires.0 in
    let after = c.requires.1 in
    let was : Playing = record { server = c.self.inside.server; replica = c.self.inside.replica; sent = c.self.inside.sent; found = c.self.inside.found; clock = c.self.inside.clock; reply = c.self.inside.reply; last = c.self.inside.last; wrap = c.self.inside.wrap } in
    let old : IsAfter was steps = subst (λ p. IsAfter p steps) (sym c.self.view_is) after in
    ap (λ (k : ReplicaState). k.inbox.out) old.replica ∙ out-named (played_by steps).replica
    ∙ reply-waits steps c.in-Some.reply (subst (λ r. IsHeldAs r (played_by steps).reply) (sym c.replace.ensures.value ∙ c.in-Some.is) old.reply)

pub returns-in_ok-put-in-None : goal.returns-in_ok-put-in-None
returns-in_ok-put-in-None c = record {
  taken = λ steps after.
      let was : Playing = record { server = c.self.inside.server; replica = c.self.inside.replica; sent = c.self.inside.sent; found = c.self.inside.found; clock = c.self.inside.clock; reply = c.self.inside.reply; last = c.self.inside.last; wrap = c.self.inside.wrap } in
      let old : IsAfter was steps = subst (λ p. IsAfter p steps) (sym c.self.view_is) after in
      subst (λ r. QuietTaken steps Accept (string_bytes c.args.out.now) (string_bytes c.put.new.out) (record was { reply = r; last = Other }) (Ok tt)) (sym c.replace.ensures.after)
      (none-turn was steps (string_bytes c.args.out.now) (string_bytes c.put.new.out) old (sym c.replace.ensures.value ∙ c.in-None.is) c.in_ok-put-in-None.ensures.ok);
}

pub returns-in-Some : goal.returns-in-Some
returns-in-Some c = record {
  taken = λ steps after.
      let was : Playing = record { server = c.self.inside.server; replica = c.self.inside.replica; sent = c.self.inside.sent; found = c.self.inside.found; clock = c.self.inside.clock; reply = c.self.inside.reply; last = c.self.inside.last; wrap = c.self.inside.wrap } in
      let old : IsAfter was steps = subst (λ p. IsAfter p steps) (sym c.self.view_is) after in
      let is : was.reply ≡ Some c.in-Some.reply = sym c.replace.ensures.value ∙ c.in-Some.is in
      subst (λ r. QuietTaken steps Accept (string_bytes c.args.out.now) (string_bytes c.take_lease.new.out) (record was { replica = c.take_lease.new.replica; reply = r; last = Other }) c.take_lease.result)
      (sym c.replace.ensures.after)
      (held-turn was c.take_lease.new.replica c.in-Some.reply steps (string_bytes c.args.out.now) (string_bytes c.take_lease.new.out) c.take_lease.result old is
      (c.take_lease.ensures (played_by steps).wrap (played_by steps).replica (played_by steps).reply old.replica
      (subst (λ r. IsHeldAs (Some r) (played_by steps).reply) (sym c.as_slice.ensures) (subst (λ r. IsHeldAs r (played_by steps).reply) is old.reply))));
}
