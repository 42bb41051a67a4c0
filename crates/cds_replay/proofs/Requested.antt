-- A tick, and the requests of a replica to the server, as the steps that they are, with what they write.
use Rattle.std.proofs.Common.{◌≡◌, ℕ, ◌+◌, ◌≤◌, ◌<◌, ◌^◌, Bool, true, false, cond, List, [], ◌∷◌, ◌++◌, length, drop, Option, Some, None, refl, ap, sym, subst, ◌∙◌, arith}
use Rattle.std.specs.Prelude.{codes}
use Rattle.std.specs.Fmt.{digits}
use Rattle.cds_catalog.specs.History.{end_of}
use Rattle.cds_commands.specs.Commands.{Command, Start, Ticks, scans_of}
use Rattle.cds_commands.specs.Notes.{has_room, first_note}
use Rattle.cds_commands.specs.Subscriptions.{granted}
use Rattle.cds_follow.specs.Inbox.{Requests, accepted}
use Rattle.cds_follow.specs.Named.{named}
use Rattle.cds_http.specs.declared.message.Side.TheVariants.{Request}
use Rattle.cds_gena.specs.Written.{subscribe_text, renewal_text, unsubscribe_text}
use Rattle.cds_notify.specs.Laws.{AreNumbers}
use Rattle.cds_notify.proofs.Lengths.{bodies-short}
use Rattle.cds_replica.specs.Calls.{GoesOn}
use Rattle.cds_replica.specs.State.{ReplicaState}
use Rattle.cds_script.specs.Report.{first_of, clock_of, sent_text, renew_text, unsubscribe_text as end_text, lives, given_up, with_renewal}
use Rattle.cds_script.specs.Script.{grant_at, moment_limit, script_callback}
use Rattle.cds_script.specs.declared.turn.ScriptTurn.TheVariants.{At, Subscribe, Renew, Unsubscribe}
use Rattle.cds_server.specs.Due.{due}
use Rattle.cds_server.specs.Outcome.{noted}
use Rattle.cds_server.specs.Serving.{Serving, StandsFor}
use Rattle.cds_server.specs.declared.notes.FirstNote.{FirstNote}
use Rattle.cds_server.specs.declared.notes.Notes.{Notes}
use Rattle.cds_replay.specs.Events.{IsAnswered, IsAsked, IsMessage, RepliesTo, event_url, callback_url}
use Rattle.cds_replay.specs.Lines.{numbered_line, sent_lines}
use Rattle.cds_replay.specs.Sending.{SentNote, sent_to, sent_notes, first_sent}
use Rattle.cds_replay.specs.Session.{Playing, IsAfter, IsSentAs, AreSentAs, tellings_by, quiet, script_start, script_names}
use Rattle.cds_replay.specs.Wired.{ReplayStep, turns_in, played_by, written_on}
use Rattle.cds_replay.specs.declared.last.Last.TheVariants.{Other}
use Rattle.cds_replay.proofs.Apart.{none-accepted, some-accepted}
use Rattle.cds_replay.proofs.EventAnswers.{IsSubscribed, subscribe-answered, renewal-is, unsubscribe-is}
use Rattle.cds_replay.proofs.EventReads.{renewal-asked, renewal-replies, unsubscribe-asked, unsubscribe-replies}
use Rattle.cds_replay.proofs.NamesLow.{accepted-short}
use Rattle.cds_replay.proofs.PlainScans.{steps-accepted}
use Rattle.cds_replay.proofs.SentNotes.{steps-call, tick-sent, IsShort, lines-added, lines-none}
use Rattle.cds_replay.proofs.Turned.{granted-is}
use Rattle.cds_replay.proofs.Wrapped.{steps-wrap}
use Rattle.cds_replay.proofs.Turns.{tick-after, Subscribes, subscribe-after, renew-after, end-after}

-- ---- a tick

pub tick-turn : (was : Playing) (server : Serving) (notes : Option Notes) (sent : List SentNote) (moment : ℕ) (steps : List ReplayStep) → IsAfter was steps → was.clock ≤ moment →
    moment < moment_limit → was.server.book.subscribed.granted < 2 ^ 32 →
    ((start : Start) (commands : List Command) → StandsFor was.server start commands → StandsFor server start (Ticks moment ∷ commands)) →
    ((start : Start) (commands : List Command) → StandsFor was.server start commands → notes ≡ due start commands moment) → IsShort notes →
    sent ≡ was.sent ++ sent_notes notes →
    IsAfter (record was { server = server; sent = sent; clock = moment; last = Other }) (quiet (At moment) ∷ steps)
    × (sent_lines (length was.sent + 1) (drop (length was.sent) sent) ≡ written_on steps (quiet (At moment)))
tick-turn was server notes sent moment steps after low within few stands told short is = (
  subst (λ (s : List SentNote). IsAfter (record was { server = server; sent = s; clock = moment; last = Other }) (quiet (At moment) ∷ steps)) (sym is)
      (tick-after was server (sent_notes notes) moment steps after low within (stands (script_start wrap first) commands after.server) sends),
  ap (λ (s : List SentNote). sent_lines (length was.sent + 1) (drop (length was.sent) s)) is
      ∙ lines-added wrap was.sent (sent_notes notes) first commands (Ticks moment) after.sent sends,
)
  where
    wrap : ℕ
    wrap = (played_by steps).wrap

    first : ℕ
    first = first_of (turns_in steps)

    commands : List Command
    commands = (played_by steps).commands

    sends : AreSentAs wrap (sent_notes notes) (tellings_by first commands (Ticks moment))
    sends =
        let wide = (steps-wrap steps after.may.stand).0 in
        tick-sent wrap first moment (omega (arith, wide)) (steps-wrap steps after.may.stand).1 commands notes (steps-call steps) (subst (λ n. n < 2 ^ 32) (granted-is was steps after) few) (steps-accepted steps after.may.number)
        (told (script_start wrap first) commands after.server) short

-- ---- a subscribe request

first-is-sent : (wrap name number : ℕ) → name < 2 ^ 32 → number < 2 ^ 32 →
    IsSentAs wrap (sent_to number (noted (script_names name) script_callback (first_note name number)).body (noted (script_names name) script_callback (first_note name number)).to) (first_note name number) []
first-is-sent wrap name number few low =
    let numbers : AreNumbers number [] [] = record { update = low; pairs = tt; changes = tt } in
    record {
      to = refl;
      number = refl;
      body = refl;
      numbers = numbers;
      short = bodies-short number [] [] numbers (omega arith) (omega arith);
      name = few;
      seq = omega arith;
    }

pub subscribe-turn : (was : Playing) (server : Serving) (replica : ReplicaState) (reply : List ℕ) (note : Option FirstNote) (number : ℕ) (sent : List SentNote) (steps : List ReplayStep) →
    IsAfter was steps → GoesOn was.replica Requests replica → was.server.book.subscribed.granted + 1 < 2 ^ 32 →
    ((start : Start) (commands : List Command) → StandsFor was.server start commands →
    IsAnswered start commands was.clock (subscribe_text event_url callback_url) [] reply note server) →
    ((start : Start) (commands : List Command) → StandsFor server start commands → number ≡ end_of (scans_of start.first commands)) →
    sent ≡ was.sent ++ first_sent number note →
    IsAfter (record was { server = server; replica = replica; sent = sent; reply = Some reply; last = Other }) (quiet Subscribe ∷ steps)
    × (sent_lines (length was.sent + 1) (drop (length was.sent) sent) ≡ written_on steps (quiet Subscribe))
subscribe-turn was server replica reply note number sent steps after goes few answered counted is = (
  subst (λ (s : List SentNote). IsAfter (record was { server = server; replica = replica; sent = s; reply = Some reply; last = Other }) (quiet Subscribe ∷ steps)) (sym is)
      (subscribe-after was server replica reply (first_sent number note) steps after goes (subscribes room comes)),
  ap (λ (s : List SentNote). sent_lines (length was.sent + 1) (drop (length was.sent) s)) is ∙ writes room comes,
)
  where
    wrap : ℕ
    wrap = (played_by steps).wrap

    first : ℕ
    first = first_of (turns_in steps)

    now : ℕ
    now = clock_of (turns_in steps)

    commands : List Command
    commands = (played_by steps).commands

    room : Bool
    room = has_room now commands

    low : granted commands + 1 < 2 ^ 32
    low = subst (λ n. n + 1 < 2 ^ 32) (granted-is was steps after) few

    comes : IsSubscribed room wrap first now commands reply note server
    comes =
        subscribe-answered wrap first now commands reply note server low
        (subst (λ at. IsAnswered (script_start wrap first) commands at (subscribe_text event_url callback_url) [] reply note server) after.clock
        (answered (script_start wrap first) commands after.server))

    sends : IsSubscribed true wrap first now commands reply note server → AreSentAs wrap (first_sent number note) (tellings_by first commands (grant_at now))
    sends c =
        subst (λ (n : ℕ). AreSentAs wrap (first_sent n note) (tellings_by first commands (grant_at now)))
        (sym (counted (script_start wrap first) (grant_at now ∷ commands) c.2))
        (subst (λ (o : Option FirstNote). AreSentAs wrap (first_sent (end_of (scans_of first commands)) o) (tellings_by first commands (grant_at now))) (sym c.1) (
          first-is-sent wrap (granted commands + 1) (end_of (scans_of first commands)) low
              (let most = (steps-accepted steps after.may.number).numbers in omega (arith, most)),
          tt,
        ))

    nothing : IsSubscribed false wrap first now commands reply note server → AreSentAs wrap (first_sent number note) []
    nothing c = subst (λ (o : Option FirstNote). AreSentAs wrap (first_sent number o) []) (sym c.1) tt

    subscribes : (b : Bool) → IsSubscribed b wrap first now commands reply note server → Subscribes b wrap first now commands reply (first_sent number note) server
    subscribes true c = (c.0, low, sends c, c.2)
    subscribes false c = (c.0, nothing c, c.2)

    writes : (b : Bool) → IsSubscribed b wrap first now commands reply note server →
        sent_lines (length was.sent + 1) (drop (length was.sent) (was.sent ++ first_sent number note)) ≡ cond b (sent_text wrap first commands (grant_at now)) []
    writes true c = lines-added wrap was.sent (first_sent number note) first commands (grant_at now) after.sent (sends c)
    writes false c = lines-none wrap was.sent (first_sent number note) first commands after.sent (nothing c)

-- ---- a renewal and an end

renew-line : (b : Bool) → numbered_line (codes "renew ") (cond b 200 412) ≡ cond b (codes "renew 200\n") (codes "renew 412\n")
unfolding digits
renew-line true = refl
renew-line false = refl

end-line : (b : Bool) → numbered_line (codes "unsubscribe ") (cond b 200 412) ≡ cond b (codes "unsubscribe 200\n") (codes "unsubscribe 412\n")
unfolding digits
end-line true = refl
end-line false = refl

pub no-renewal : (was : Playing) (steps : List ReplayStep) → IsAfter was steps → accepted (named script_names (played_by steps).replica) ≡ None →
    IsAfter (record was { last = Other }) (quiet Renew ∷ steps) × (codes "renew none\n" ≡ written_on steps (quiet Renew))
no-renewal was steps after none =
    let is : accepted (played_by steps).replica ≡ None = none-accepted (played_by steps).replica none in (
      renew-after was was.server steps after
          (subst (λ o. StandsFor was.server (script_start (played_by steps).wrap (first_of (turns_in steps))) (with_renewal o (clock_of (turns_in steps)) (played_by steps).commands))
          (sym is) after.server),
      ap (λ o. renew_text o (clock_of (turns_in steps)) (played_by steps).commands) (sym is),
    )

-- the request is one message, to which the server replies
pub renewal-ready : (was : Playing) (sid : ℕ) (steps : List ReplayStep) → IsAfter was steps → accepted (named script_names (played_by steps).replica) ≡ Some sid →
    was.server.book.subscribed.granted < 2 ^ 32 → IsMessage Request (renewal_text event_url sid) × RepliesTo was.server was.clock (renewal_text event_url sid)
renewal-ready was sid steps after is few = (
  subst (λ n. IsMessage Request (renewal_text event_url n)) (sym name.2) (let r = renewal-is (script_names name.0) short in (r.message, r.whole)),
  record {
    start = script_start (played_by steps).wrap (first_of (turns_in steps));
    commands = commands;
    stands = after.server;
    replies = λ reply note server answered.
        renewal-replies (played_by steps).wrap (first_of (turns_in steps)) was.clock name.0 commands reply note server low short
        (subst (λ n. IsAnswered (script_start (played_by steps).wrap (first_of (turns_in steps))) commands was.clock (renewal_text event_url n) [] reply note server) name.2 answered);
  },
)
  where
    commands : List Command
    commands = (played_by steps).commands

    low : granted commands < 2 ^ 32
    low = subst (λ n. n < 2 ^ 32) (granted-is was steps after) few

    name : (n : ℕ) × (accepted (played_by steps).replica ≡ Some n) × (sid ≡ script_names n)
    name = some-accepted (played_by steps).replica sid is

    short : script_names name.0 < 2 ^ 128
    short = accepted-short steps name.0 name.1 low

pub renewal-turn : (was : Playing) (server : Serving) (sid status : ℕ) (steps : List ReplayStep) → IsAfter was steps → accepted (named script_names (played_by steps).replica) ≡ Some sid →
    was.server.book.subscribed.granted < 2 ^ 32 →
    ((start : Start) (commands : List Command) → StandsFor was.server start commands → IsAsked start commands was.clock (renewal_text event_url sid) status server) →
    IsAfter (record was { server = server; last = Other }) (quiet Renew ∷ steps) × (numbered_line (codes "renew ") status ≡ written_on steps (quiet Renew))
renewal-turn was server sid status steps after is few asked = (
  renew-after was server steps after
      (subst (λ o. StandsFor server (script_start wrap first) (with_renewal o now commands)) (sym name.1) came.0),
  ap (numbered_line (codes "renew ")) came.1 ∙ renew-line (lives name.0 now commands) ∙ ap (λ o. renew_text o now commands) (sym name.1),
)
  where
    wrap : ℕ
    wrap = (played_by steps).wrap

    first : ℕ
    first = first_of (turns_in steps)

    now : ℕ
    now = clock_of (turns_in steps)

    commands : List Command
    commands = (played_by steps).commands

    low : granted commands < 2 ^ 32
    low = subst (λ n. n < 2 ^ 32) (granted-is was steps after) few

    name : (n : ℕ) × (accepted (played_by steps).replica ≡ Some n) × (sid ≡ script_names n)
    name = some-accepted (played_by steps).replica sid is

    came : StandsFor server (script_start wrap first) (with_renewal (Some name.0) now commands) × (status ≡ cond (lives name.0 now commands) 200 412)
    came =
        renewal-asked wrap first now name.0 status commands server low (accepted-short steps name.0 name.1 low)
        (subst (λ n. IsAsked (script_start wrap first) commands now (renewal_text event_url n) status server) name.2
        (subst (λ at. IsAsked (script_start wrap first) commands at (renewal_text event_url sid) status server) after.clock (asked (script_start wrap first) commands after.server)))

pub no-end : (was : Playing) (steps : List ReplayStep) → IsAfter was steps → accepted (named script_names (played_by steps).replica) ≡ None →
    IsAfter (record was { last = Other }) (quiet Unsubscribe ∷ steps) × (codes "unsubscribe none\n" ≡ written_on steps (quiet Unsubscribe))
no-end was steps after none =
    let is : accepted (played_by steps).replica ≡ None = none-accepted (played_by steps).replica none in (
      end-after was was.server steps after
          (subst (λ o. StandsFor was.server (script_start (played_by steps).wrap (first_of (turns_in steps))) (given_up o (clock_of (turns_in steps)) (played_by steps).commands))
          (sym is) after.server),
      ap (λ o. end_text o (clock_of (turns_in steps)) (played_by steps).commands) (sym is),
    )

-- the request is one message, to which the server replies
pub end-ready : (was : Playing) (sid : ℕ) (steps : List ReplayStep) → IsAfter was steps → accepted (named script_names (played_by steps).replica) ≡ Some sid →
    was.server.book.subscribed.granted < 2 ^ 32 → IsMessage Request (unsubscribe_text event_url sid) × RepliesTo was.server was.clock (unsubscribe_text event_url sid)
end-ready was sid steps after is few = (
  subst (λ n. IsMessage Request (unsubscribe_text event_url n)) (sym name.2) (let r = unsubscribe-is (script_names name.0) short in (r.message, r.whole)),
  record {
    start = script_start (played_by steps).wrap (first_of (turns_in steps));
    commands = commands;
    stands = after.server;
    replies = λ reply note server answered.
        unsubscribe-replies (played_by steps).wrap (first_of (turns_in steps)) was.clock name.0 commands reply note server low short
        (subst (λ n. IsAnswered (script_start (played_by steps).wrap (first_of (turns_in steps))) commands was.clock (unsubscribe_text event_url n) [] reply note server) name.2 answered);
  },
)
  where
    commands : List Command
    commands = (played_by steps).commands

    low : granted commands < 2 ^ 32
    low = subst (λ n. n < 2 ^ 32) (granted-is was steps after) few

    name : (n : ℕ) × (accepted (played_by steps).replica ≡ Some n) × (sid ≡ script_names n)
    name = some-accepted (played_by steps).replica sid is

    short : script_names name.0 < 2 ^ 128
    short = accepted-short steps name.0 name.1 low

pub end-turn : (was : Playing) (server : Serving) (sid status : ℕ) (steps : List ReplayStep) → IsAfter was steps → accepted (named script_names (played_by steps).replica) ≡ Some sid →
    was.server.book.subscribed.granted < 2 ^ 32 →
    ((start : Start) (commands : List Command) → StandsFor was.server start commands → IsAsked start commands was.clock (unsubscribe_text event_url sid) status server) →
    IsAfter (record was { server = server; last = Other }) (quiet Unsubscribe ∷ steps) × (numbered_line (codes "unsubscribe ") status ≡ written_on steps (quiet Unsubscribe))
end-turn was server sid status steps after is few asked = (
  end-after was server steps after
      (subst (λ o. StandsFor server (script_start wrap first) (given_up o now commands)) (sym name.1) came.0),
  ap (numbered_line (codes "unsubscribe ")) came.1 ∙ end-line (lives name.0 now commands) ∙ ap (λ o. end_text o now commands) (sym name.1),
)
  where
    wrap : ℕ
    wrap = (played_by steps).wrap

    first : ℕ
    first = first_of (turns_in steps)

    now : ℕ
    now = clock_of (turns_in steps)

    commands : List Command
    commands = (played_by steps).commands

    low : granted commands < 2 ^ 32
    low = subst (λ n. n < 2 ^ 32) (granted-is was steps after) few

    name : (n : ℕ) × (accepted (played_by steps).replica ≡ Some n) × (sid ≡ script_names n)
    name = some-accepted (played_by steps).replica sid is

    came : StandsFor server (script_start wrap first) (given_up (Some name.0) now commands) × (status ≡ cond (lives name.0 now commands) 200 412)
    came =
        unsubscribe-asked wrap first now name.0 status commands server low (accepted-short steps name.0 name.1 low)
        (subst (λ n. IsAsked (script_start wrap first) commands now (unsubscribe_text event_url n) status server) name.2
        (subst (λ at. IsAsked (script_start wrap first) commands at (unsubscribe_text event_url sid) status server) after.clock (asked (script_start wrap first) commands after.server)))
