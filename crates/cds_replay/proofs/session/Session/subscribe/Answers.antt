-- The request is answered, and the first note is sent with a grant.
use Rattle.std.proofs.Common.{ℕ, ◌+◌, ◌<◌, ◌^◌, List, [], ◌∷◌, Option, Some, drop, sym, ap, subst, ◌∙◌, string_bytes}
use Rattle.std.proofs.lemmas.Result.{on_ok_weaker}
use Rattle.cds_commands.specs.Commands.{Command, Start}
use Rattle.cds_http.specs.declared.message.Side.TheVariants.{Request}
use Rattle.cds_gena.specs.Written.{subscribe_text}
use Rattle.cds_server.specs.Serving.{StandsFor}
use Rattle.cds_script.specs.declared.turn.ScriptTurn.TheVariants.{Subscribe}
use Rattle.cds_script.specs.Report.{first_of}
use Rattle.cds_replay.specs.Events.{IsAnswered, IsMessage, event_url, callback_url}
use Rattle.cds_replay.specs.Lines.{sent_lines}
use Rattle.cds_replay.specs.Session.{Playing, IsAfter, quiet, script_start}
use Rattle.cds_replay.specs.Wired.{turns_in, played_by, written_on}
use Rattle.cds_replay.specs.declared.last.Last.TheVariants.{Other}
use Rattle.cds_replay.proofs.Answered.{written-as}
use Rattle.cds_replay.proofs.EventAnswers.{subscribe-is}
use Rattle.cds_replay.proofs.Requested.{subscribe-turn}
use Rattle.cds_replay.proofs.session.Session.subscribe.Goals as goal

pub answered-requires : goal.answered-requires
answered-requires c = subst (IsMessage Request) (sym (c.as_slice.ensures.value ∙ c.in_ok-request.ensures)) (subscribe-is.message, subscribe-is.whole)

pub send_granted-requires : goal.send_granted-requires
send_granted-requires c =
    let steps = c.requires.standing.0 in
    let after = c.requires.standing.1 in
    let was : Playing = record { server = c.self.inside.server; replica = c.self.inside.replica; sent = c.self.inside.sent; found = c.self.inside.found; clock = c.self.inside.clock; reply = c.self.inside.reply; last = c.self.inside.last; wrap = c.self.inside.wrap } in
    let old : IsAfter was steps = subst (λ p. IsAfter p steps) (sym c.self.view_is) after in
    (c.in_ok-note.ensures (script_start (played_by steps).wrap (first_of (turns_in steps))) (played_by steps).commands old.server).goes

pub returns-clause-after : goal.returns-clause-after
returns-clause-after c = λ steps after.
    let was : Playing = record { server = c.self.inside.server; replica = c.self.inside.replica; sent = c.self.inside.sent; found = c.self.inside.found; clock = c.self.inside.clock; reply = c.self.inside.reply; last = c.self.inside.last; wrap = c.self.inside.wrap } in
    let old : IsAfter was steps = subst (λ p. IsAfter p steps) (sym c.self.view_is) after in
    let asked : (start : Start) (commands : List Command) → StandsFor was.server start commands →
    IsAnswered start commands was.clock (subscribe_text event_url callback_url) [] c.answered.new.reply.items c.in_ok-note.note c.answered.new.server =
    λ start commands stands.
    subst (λ (r : List ℕ). IsAnswered start commands was.clock r [] c.answered.new.reply.items c.in_ok-note.note c.answered.new.server) (c.as_slice.ensures.value ∙ c.in_ok-request.ensures)
    (subst (λ (o : List ℕ). IsAnswered start commands was.clock c.as_slice.result.now o c.answered.new.reply.items c.in_ok-note.note c.answered.new.server) c.new-reply.ensures.items
    (c.in_ok-note.ensures start commands stands)) in
    let t = subscribe-turn was c.answered.new.server c.subscribing.new.self c.answered.new.reply.items c.in_ok-note.note c.system_update_id-number.result c.send_granted.new.self steps old
    c.subscribing.ensures.stands (subst (λ (p : Playing). p.server.book.subscribed.granted + 1 < 2 ^ 32) (sym c.self.view_is) c.requires.granted) asked
    c.system_update_id-number.ensures.counted c.in_ok-send_granted.ensures in
    on_ok_weaker c.put_notes.result
    (λ written. subst (λ (r : Option (List ℕ)). IsAfter (record was { server = c.answered.new.server; replica = c.subscribing.new.self; sent = c.send_granted.new.self; reply = r; last = Other }) (quiet Subscribe ∷ steps))
    (sym (c.replace.ensures.after ∙ ap (λ (r : List ℕ). Some r) c.from-held.ensures)) t.0)
    c.put_notes.ensures

pub returns-clause-written : goal.returns-clause-written
returns-clause-written c = λ steps after.
    let was : Playing = record { server = c.self.inside.server; replica = c.self.inside.replica; sent = c.self.inside.sent; found = c.self.inside.found; clock = c.self.inside.clock; reply = c.self.inside.reply; last = c.self.inside.last; wrap = c.self.inside.wrap } in
    let old : IsAfter was steps = subst (λ p. IsAfter p steps) (sym c.self.view_is) after in
    let asked : (start : Start) (commands : List Command) → StandsFor was.server start commands →
    IsAnswered start commands was.clock (subscribe_text event_url callback_url) [] c.answered.new.reply.items c.in_ok-note.note c.answered.new.server =
    λ start commands stands.
    subst (λ (r : List ℕ). IsAnswered start commands was.clock r [] c.answered.new.reply.items c.in_ok-note.note c.answered.new.server) (c.as_slice.ensures.value ∙ c.in_ok-request.ensures)
    (subst (λ (o : List ℕ). IsAnswered start commands was.clock c.as_slice.result.now o c.answered.new.reply.items c.in_ok-note.note c.answered.new.server) c.new-reply.ensures.items
    (c.in_ok-note.ensures start commands stands)) in
    let t = subscribe-turn was c.answered.new.server c.subscribing.new.self c.answered.new.reply.items c.in_ok-note.note c.system_update_id-number.result c.send_granted.new.self steps old
    c.subscribing.ensures.stands (subst (λ (p : Playing). p.server.book.subscribed.granted + 1 < 2 ^ 32) (sym c.self.view_is) c.requires.granted) asked
    c.system_update_id-number.ensures.counted c.in_ok-send_granted.ensures in
    written-as c.put_notes.result (string_bytes c.put_notes.new.out) (string_bytes c.args.out.now) (sent_lines (c.len-sent.result + 1) (drop c.len-sent.result c.send_granted.new.self))
    (written_on steps (quiet Subscribe)) (ap (λ n. sent_lines (n + 1) (drop n c.send_granted.new.self)) c.len-sent.ensures ∙ t.1) c.put_notes.ensures
