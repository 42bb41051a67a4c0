-- A read asks for nothing, or its reply is taken or refused.
use Rattle.std.proofs.Common.{◌≡◌, refl, ap, sym, subst, ◌∙◌, Some, None, IsSome, string_bytes}
use Rattle.cds_follow.specs.Follow.{known_by, next_ask}
use Rattle.cds_follow.specs.Named.{named}
use Rattle.cds_script.specs.Report.{first_of}
use Rattle.cds_replay.specs.Session.{Playing, IsAfter, script_names}
use Rattle.cds_replay.specs.Wired.{turns_in, played_by}
use Rattle.cds_replay.proofs.Apart.{knows-same}
use Rattle.cds_replay.proofs.PlainScans.{may-plain}
use Rattle.cds_replay.proofs.Taking.{read-turn, idle-turn}
use Rattle.cds_replay.proofs.session.Session.read.Goals as goal

pub take_reply-requires : goal.take_reply-requires
take_reply-requires g c = subst IsSome (sym (sym c.next_ask.ensures.kept ∙ c.in-Some.is)) refl

pub returns-in_ok-put-in-None : goal.returns-in_ok-put-in-None
returns-in_ok-put-in-None g c = record {
  taken = λ steps after.
      let was : Playing = record { server = c.self.inside.server; replica = c.self.inside.replica; sent = c.self.inside.sent; found = c.self.inside.found; clock = c.self.inside.clock; reply = c.self.inside.reply; last = c.self.inside.last; wrap = c.self.inside.wrap } in
      let old : IsAfter was steps = subst (λ p. IsAfter p steps) (sym c.self.view_is) after in
      let asks : next_ask (known_by (played_by steps).replica) ≡ None =
      ap next_ask (sym (knows-same (played_by steps).replica).knows) ∙ sym (c.next_ask.ensures.next (played_by steps).wrap (named script_names (played_by steps).replica) old.replica) ∙ c.in-None.is in
      idle-turn (g.W.Wire.carried c.args.wire.now) was steps (string_bytes c.args.out.now) (string_bytes c.put.new.out) old asks c.in_ok-put-in-None.ensures.ok;
}

pub returns-in_ok-reply-in-Some : goal.returns-in_ok-reply-in-Some
returns-in_ok-reply-in-Some g c = record {
  taken = λ steps after.
      let was : Playing = record { server = c.self.inside.server; replica = c.self.inside.replica; sent = c.self.inside.sent; found = c.self.inside.found; clock = c.self.inside.clock; reply = c.self.inside.reply; last = c.self.inside.last; wrap = c.self.inside.wrap } in
      let old : IsAfter was steps = subst (λ p. IsAfter p steps) (sym c.self.view_is) after in
      let asks : next_ask (known_by (played_by steps).replica) ≡ Some c.in-Some.ask =
      ap next_ask (sym (knows-same (played_by steps).replica).knows) ∙ sym (c.next_ask.ensures.next (played_by steps).wrap (named script_names (played_by steps).replica) old.replica) ∙ c.in-Some.is in
      read-turn (g.W.Wire.carried c.args.wire.now) was c.carried_reply.new.server c.take_reply.new.replica steps c.in-Some.ask c.as_slice.result.now
      (string_bytes c.args.out.now) (string_bytes c.take_reply.new.out) c.take_reply.result old asks c.carried_reply.ensures.same
      (c.as_slice.ensures.value ∙ c.in_ok-reply-in-Some.ensures.replies (played_by steps).wrap (first_of (turns_in steps)) (played_by steps).commands old.server (may-plain steps old.may))
      (c.take_reply.ensures (played_by steps).wrap (played_by steps).replica old.replica);
}
