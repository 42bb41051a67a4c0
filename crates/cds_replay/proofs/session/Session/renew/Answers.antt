-- The name that was accepted last, if there is one, is renewed.
use Rattle.std.proofs.Common.{◌≡◌, ℕ, ◌<◌, ◌^◌, List, ◌∷◌, Some, None, codes, sym, ap, subst, ◌∙◌, string_bytes}
use Rattle.std.specs.Prelude.{option_map}
use Rattle.std.proofs.lemmas.Result.{on_ok_weaker}
use Rattle.cds_commands.specs.Commands.{Command, Start}
use Rattle.cds_follow.specs.Inbox.{accepted}
use Rattle.cds_follow.specs.Named.{named}
use Rattle.cds_http.specs.declared.message.Side.TheVariants.{Request}
use Rattle.cds_gena.specs.Written.{renewal_text}
use Rattle.cds_server.specs.Serving.{StandsFor}
use Rattle.cds_script.specs.declared.turn.ScriptTurn.TheVariants.{Renew}
use Rattle.cds_replay.specs.Events.{IsAsked, IsMessage, RepliesTo, event_url}
use Rattle.cds_replay.specs.Lines.{numbered_line}
use Rattle.cds_replay.specs.Session.{Playing, IsAfter, quiet, script_names}
use Rattle.cds_replay.specs.Wired.{played_by, written_on}
use Rattle.cds_replay.proofs.Answered.{written-as}
use Rattle.cds_replay.proofs.Requested.{renewal-ready, renewal-turn, no-renewal}
use Rattle.cds_replay.proofs.session.Session.renew.Goals as goal

pub asked-requires-clause-whole : goal.asked-requires-clause-whole
asked-requires-clause-whole c =
    let was : Playing = record { server = c.self.inside.server; replica = c.self.inside.replica; sent = c.self.inside.sent; found = c.self.inside.found; clock = c.self.inside.clock; reply = c.self.inside.reply; last = c.self.inside.last; wrap = c.self.inside.wrap } in
    let old : IsAfter was c.requires.standing.0 = subst (λ p. IsAfter p c.requires.standing.0) (sym c.self.view_is) c.requires.standing.1 in
    let some : accepted (named script_names (played_by c.requires.standing.0).replica) ≡ Some c.in-Some.sid.0 =
    sym (c.accepted.ensures.name (played_by c.requires.standing.0).wrap (named script_names (played_by c.requires.standing.0).replica) old.replica) ∙ ap (option_map (λ sid. sid.0)) c.in-Some.is in
    let ready = renewal-ready was c.in-Some.sid.0 c.requires.standing.0 old some (subst (λ (p : Playing). p.server.book.subscribed.granted < 2 ^ 32) (sym c.self.view_is) c.requires.granted) in
    subst (IsMessage Request) (sym (c.as_slice.ensures.value ∙ c.in_ok-request-in-Some.ensures)) ready.0

pub asked-requires-clause-replies : goal.asked-requires-clause-replies
asked-requires-clause-replies c =
    let was : Playing = record { server = c.self.inside.server; replica = c.self.inside.replica; sent = c.self.inside.sent; found = c.self.inside.found; clock = c.self.inside.clock; reply = c.self.inside.reply; last = c.self.inside.last; wrap = c.self.inside.wrap } in
    let old : IsAfter was c.requires.standing.0 = subst (λ p. IsAfter p c.requires.standing.0) (sym c.self.view_is) c.requires.standing.1 in
    let some : accepted (named script_names (played_by c.requires.standing.0).replica) ≡ Some c.in-Some.sid.0 =
    sym (c.accepted.ensures.name (played_by c.requires.standing.0).wrap (named script_names (played_by c.requires.standing.0).replica) old.replica) ∙ ap (option_map (λ sid. sid.0)) c.in-Some.is in
    let ready = renewal-ready was c.in-Some.sid.0 c.requires.standing.0 old some (subst (λ (p : Playing). p.server.book.subscribed.granted < 2 ^ 32) (sym c.self.view_is) c.requires.granted) in
    subst (RepliesTo was.server was.clock) (sym (c.as_slice.ensures.value ∙ c.in_ok-request-in-Some.ensures)) ready.1

pub returns-in-None-clause-after : goal.returns-in-None-clause-after
returns-in-None-clause-after c = λ steps after.
    let was : Playing = record { server = c.self.inside.server; replica = c.self.inside.replica; sent = c.self.inside.sent; found = c.self.inside.found; clock = c.self.inside.clock; reply = c.self.inside.reply; last = c.self.inside.last; wrap = c.self.inside.wrap } in
    let old : IsAfter was steps = subst (λ p. IsAfter p steps) (sym c.self.view_is) after in
    let none : accepted (named script_names (played_by steps).replica) ≡ None =
    sym (c.accepted.ensures.name (played_by steps).wrap (named script_names (played_by steps).replica) old.replica) ∙ ap (option_map (λ sid. sid.0)) c.in-None.is in
    on_ok_weaker c.put.result (λ written. (no-renewal was steps old none).0) c.put.ensures.ok

pub returns-in-None-clause-written : goal.returns-in-None-clause-written
returns-in-None-clause-written c = λ steps after.
    let was : Playing = record { server = c.self.inside.server; replica = c.self.inside.replica; sent = c.self.inside.sent; found = c.self.inside.found; clock = c.self.inside.clock; reply = c.self.inside.reply; last = c.self.inside.last; wrap = c.self.inside.wrap } in
    let old : IsAfter was steps = subst (λ p. IsAfter p steps) (sym c.self.view_is) after in
    let none : accepted (named script_names (played_by steps).replica) ≡ None =
    sym (c.accepted.ensures.name (played_by steps).wrap (named script_names (played_by steps).replica) old.replica) ∙ ap (option_map (λ sid. sid.0)) c.in-None.is in
    written-as c.put.result (string_bytes c.put.new.out) (string_bytes c.args.out.now) (codes "renew none\n") (written_on steps (quiet Renew)) (no-renewal was steps old none).1 c.put.ensures.ok

pub returns-in_ok-status-in-Some-clause-after : goal.returns-in_ok-status-in-Some-clause-after
returns-in_ok-status-in-Some-clause-after c = λ steps after.
    let was : Playing = record { server = c.self.inside.server; replica = c.self.inside.replica; sent = c.self.inside.sent; found = c.self.inside.found; clock = c.self.inside.clock; reply = c.self.inside.reply; last = c.self.inside.last; wrap = c.self.inside.wrap } in
    let old : IsAfter was steps = subst (λ p. IsAfter p steps) (sym c.self.view_is) after in
    let some : accepted (named script_names (played_by steps).replica) ≡ Some c.in-Some.sid.0 =
    sym (c.accepted.ensures.name (played_by steps).wrap (named script_names (played_by steps).replica) old.replica) ∙ ap (option_map (λ sid. sid.0)) c.in-Some.is in
    let asked : (start : Start) (commands : List Command) → StandsFor was.server start commands →
    IsAsked start commands was.clock (renewal_text event_url c.in-Some.sid.0) c.in_ok-status-in-Some.status c.asked.new.self.server =
    λ start commands stands.
    subst (λ (r : List ℕ). IsAsked start commands was.clock r c.in_ok-status-in-Some.status c.asked.new.self.server) (c.as_slice.ensures.value ∙ c.in_ok-request-in-Some.ensures)
    (c.in_ok-status-in-Some.ensures.answered start commands stands) in
    let t = renewal-turn was c.asked.new.self.server c.in-Some.sid.0 c.in_ok-status-in-Some.status steps old some
    (subst (λ (p : Playing). p.server.book.subscribed.granted < 2 ^ 32) (sym c.self.view_is) c.requires.granted) asked in
    on_ok_weaker c.put_status.result (λ written. subst (λ p. IsAfter p (quiet Renew ∷ steps)) (sym c.asked.ensures.kept) t.0) c.put_status.ensures

pub returns-in_ok-status-in-Some-clause-written : goal.returns-in_ok-status-in-Some-clause-written
returns-in_ok-status-in-Some-clause-written c = λ steps after.
    let was : Playing = record { server = c.self.inside.server; replica = c.self.inside.replica; sent = c.self.inside.sent; found = c.self.inside.found; clock = c.self.inside.clock; reply = c.self.inside.reply; last = c.self.inside.last; wrap = c.self.inside.wrap } in
    let old : IsAfter was steps = subst (λ p. IsAfter p steps) (sym c.self.view_is) after in
    let some : accepted (named script_names (played_by steps).replica) ≡ Some c.in-Some.sid.0 =
    sym (c.accepted.ensures.name (played_by steps).wrap (named script_names (played_by steps).replica) old.replica) ∙ ap (option_map (λ sid. sid.0)) c.in-Some.is in
    let asked : (start : Start) (commands : List Command) → StandsFor was.server start commands →
    IsAsked start commands was.clock (renewal_text event_url c.in-Some.sid.0) c.in_ok-status-in-Some.status c.asked.new.self.server =
    λ start commands stands.
    subst (λ (r : List ℕ). IsAsked start commands was.clock r c.in_ok-status-in-Some.status c.asked.new.self.server) (c.as_slice.ensures.value ∙ c.in_ok-request-in-Some.ensures)
    (c.in_ok-status-in-Some.ensures.answered start commands stands) in
    let t = renewal-turn was c.asked.new.self.server c.in-Some.sid.0 c.in_ok-status-in-Some.status steps old some
    (subst (λ (p : Playing). p.server.book.subscribed.granted < 2 ^ 32) (sym c.self.view_is) c.requires.granted) asked in
    written-as c.put_status.result (string_bytes c.put_status.new.out) (string_bytes c.args.out.now) (numbered_line (codes "renew ") c.in_ok-status-in-Some.status) (written_on steps (quiet Renew)) t.1 c.put_status.ensures
