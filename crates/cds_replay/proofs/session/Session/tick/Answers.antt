-- What is due is sent.
use Rattle.std.proofs.Common.{◌+◌, ◌≤◌, ◌<◌, ◌^◌, drop, sym, ap, subst, ◌∙◌, string_bytes}
use Rattle.std.proofs.lemmas.Result.{on_ok_weaker}
use Rattle.cds_script.specs.declared.turn.ScriptTurn.TheVariants.{At}
use Rattle.cds_replay.specs.Lines.{sent_lines}
use Rattle.cds_replay.specs.Session.{Playing, IsAfter, quiet}
use Rattle.cds_replay.specs.Wired.{written_on}
use Rattle.cds_replay.proofs.Answered.{written-as}
use Rattle.cds_replay.proofs.Requested.{tick-turn}
use Rattle.cds_replay.proofs.session.Session.tick.Goals as goal

pub returns-clause-after : goal.returns-clause-after
returns-clause-after c = λ steps after.
    let was : Playing = record { server = c.self.inside.server; replica = c.self.inside.replica; sent = c.self.inside.sent; found = c.self.inside.found; clock = c.self.inside.clock; reply = c.self.inside.reply; last = c.self.inside.last; wrap = c.self.inside.wrap } in
    let old : IsAfter was steps = subst (λ p. IsAfter p steps) (sym c.self.view_is) after in
    let t = tick-turn was c.tick.new.self c.in_ok-notes.notes c.send_due.new.self c.args.moment steps old (subst (λ (p : Playing). p.clock ≤ c.args.moment) (sym c.self.view_is) c.requires.rises)
    c.requires.within (subst (λ (p : Playing). p.server.book.subscribed.granted < 2 ^ 32) (sym c.self.view_is) c.requires.granted)
    c.in_ok-notes.ensures.stands c.in_ok-notes.ensures.notes c.in_ok-notes.ensures.short c.in_ok-send_due.ensures in
    on_ok_weaker c.put_notes.result (λ written. t.0) c.put_notes.ensures

pub returns-clause-written : goal.returns-clause-written
returns-clause-written c = λ steps after.
    let was : Playing = record { server = c.self.inside.server; replica = c.self.inside.replica; sent = c.self.inside.sent; found = c.self.inside.found; clock = c.self.inside.clock; reply = c.self.inside.reply; last = c.self.inside.last; wrap = c.self.inside.wrap } in
    let old : IsAfter was steps = subst (λ p. IsAfter p steps) (sym c.self.view_is) after in
    let t = tick-turn was c.tick.new.self c.in_ok-notes.notes c.send_due.new.self c.args.moment steps old (subst (λ (p : Playing). p.clock ≤ c.args.moment) (sym c.self.view_is) c.requires.rises)
    c.requires.within (subst (λ (p : Playing). p.server.book.subscribed.granted < 2 ^ 32) (sym c.self.view_is) c.requires.granted)
    c.in_ok-notes.ensures.stands c.in_ok-notes.ensures.notes c.in_ok-notes.ensures.short c.in_ok-send_due.ensures in
    written-as c.put_notes.result (string_bytes c.put_notes.new.out) (string_bytes c.args.out.now) (sent_lines (c.len-sent.result + 1) (drop c.len-sent.result c.send_due.new.self))
    (written_on steps (quiet (At c.args.moment))) (ap (λ n. sent_lines (n + 1) (drop n c.send_due.new.self)) c.len-sent.ensures ∙ t.1) c.put_notes.ensures
