-- A session that stands for steps stands for them and one more: what each turn makes of the server, of the replica and of the notes.
use Rattle.std.proofs.Common.{◌≡◌, ℕ, suc, ◌+◌, ◌≤◌, ◌<◌, ◌^◌, arith, List, [], ◌∷◌, ◌++◌, length, Bool, true, false, cond, nat_le, Option, Some, None, Result, Ok, Err, refl, ap, sym, subst, ◌∙◌}
use Rattle.std.proofs.lemmas.Bool.{and_parts, eqb-true, le-leb}
use Rattle.std.specs.List.{list_all}
use Rattle.std.proofs.lemmas.List.{append-nil}
use Rattle.cds_object.specs.declared.record.Record.{Record}
use Rattle.cds_object.specs.declared.info.Comment.{Comment}
use Rattle.cds_object.specs.declared.info.FlacInfo.{FlacInfo}
use Rattle.cds_catalog.specs.Scans.{ScanAnswer, Accepted, BadRecord, TooMany, NoNumbers, scan_answer}
use Rattle.cds_store.specs.declared.span.Span.{Span}
use Rattle.cds_store.specs.declared.error.ApplyError.{ApplyError}
use Rattle.cds_store.specs.declared.error.ApplyError.TheVariants.{BadRecords, Full, Spent, Mem as NoMemory}
use Rattle.cds_script.specs.Report.{last_commented, records_since, first_of, clock_of, scanned, is_first, reaching, after_reply, after_note, sent_note, given_up, with_renewal, lives, Played}
use Rattle.cds_load.specs.declared.exchange.Shown.{Shown}
use Rattle.cds_commands.specs.Commands.{Command, Renews, Ends, Ticks, scans_of}
use Rattle.cds_commands.specs.Notes.{Note, has_room, notes_of}
use Rattle.cds_commands.specs.Places.{last_seq}
use Rattle.cds_commands.specs.Subscriptions.{granted}
use Rattle.cds_follow.specs.Inbox.{Begins, Requests, accepted}
use Rattle.cds_follow.specs.Follow.{known_by, next_ask}
use Rattle.cds_follow.specs.Named.{named}
use Rattle.cds_replica.specs.Calls.{GoesOn}
use Rattle.cds_replica.specs.State.{ReplicaState, StandsFor}
use Rattle.cds_script.specs.declared.found.Found.TheVariants.{Folder as FolderFound, Track as TrackFound}
use Rattle.cds_script.specs.declared.reply.HeldReply.{HeldReply}
use Rattle.cds_script.specs.declared.reply.HeldReply.TheVariants.{NoReply, Named, Refusal}
use Rattle.cds_script.specs.declared.turn.ScriptTurn.{ScriptTurn}
use Rattle.cds_script.specs.declared.turn.ScriptTurn.TheVariants.{Folder, Track, Tag, Scan, Load, Read, Ask, First, Wrap, At, Subscribe, Accept, Renew, Unsubscribe, Deliver, ReadFault}
use Rattle.cds_script.specs.Script.{IsInRange, grant_at, granted_seconds, moment_limit}
use Rattle.cds_control.specs.Replies.{empty_reply}
use Rattle.cds_server.specs.Outcome.{lease_reply}
use Rattle.cds_server.specs.Serving.{Serving, StandsFor as ServerStandsFor, Scanned}
use Rattle.cds_replay.specs.Lines.{was_answered}
use Rattle.cds_replay.specs.Sending.{SentNote}
use Rattle.cds_replay.specs.Wired.{ReplayStep, turns_in, play_read, played_by, and_read, refuses_read, refuses_reply, refuses_note, may_stand_by}
use Rattle.cds_replay.specs.Session.{Playing, IsAfter, AreSentAs, IsHeldAs, tellings_by, tellings_of, quiet, script_start, script_names, first_in, is_beginning, last_of, with_found, with_tag}
use Rattle.cds_replay.specs.declared.last.Last.TheVariants.{NoTurn, OfFirst, Other}
use Rattle.cds_replay.proofs.Turned.{first-more, last-some, turned}
use Rattle.cds_replay.proofs.SentNotes.{sent-same, sent-append}

-- a load
pub load-after : (was : Playing) (replica : ReplicaState) (steps : List ReplayStep) → IsAfter was steps → GoesOn was.replica Begins replica →
    IsAfter (record was { replica = replica; last = Other }) (quiet Load ∷ steps)
load-after was replica steps after goes =
    turned was (record was { replica = replica; last = Other }) (quiet Load) steps after refl refl tt refl after.server
    (goes (played_by steps).wrap (named script_names (played_by steps).replica) after.replica) after.sent after.found after.clock after.reply refl after.wrap

-- an ask, and a read whose reply is lost
pub ask-after : (was : Playing) (steps : List ReplayStep) → IsAfter was steps → IsAfter (record was { last = Other }) (quiet Ask ∷ steps)
ask-after was steps after =
    turned was (record was { last = Other }) (quiet Ask) steps after refl refl tt refl after.server after.replica after.sent after.found after.clock after.reply refl after.wrap

pub lost-after : (was : Playing) (steps : List ReplayStep) → IsAfter was steps → IsAfter (record was { last = Other }) (quiet ReadFault ∷ steps)
lost-after was steps after =
    turned was (record was { last = Other }) (quiet ReadFault) steps after refl refl tt refl after.server after.replica after.sent after.found after.clock after.reply refl after.wrap

-- a read
pub read-after : (was : Playing) (server : Serving) (replica : ReplicaState) (read : Option Shown) (steps : List ReplayStep) → IsAfter was steps →
    server ≡ was.server → refuses_read (next_ask (known_by (played_by steps).replica)) read (played_by steps).replica ≡ false →
    StandsFor replica (played_by steps).wrap (named script_names (and_read (next_ask (known_by (played_by steps).replica)) read (played_by steps).replica)) →
    IsAfter (record was { server = server; replica = replica; last = Other }) (record { turn = Read; read = read } ∷ steps)
read-after was server replica read steps after same takes stands =
    turned was (record was { server = server; replica = replica; last = Other }) (record { turn = Read; read = read }) steps after refl refl tt takes
    (subst (λ s. ServerStandsFor s (script_start (played_by steps).wrap (first_of (turns_in steps))) (played_by steps).commands) (sym same) after.server)
    stands after.sent after.found after.clock after.reply refl after.wrap

-- one where nothing is asked
pub idle-after : (was : Playing) (steps : List ReplayStep) → IsAfter was steps → next_ask (known_by (played_by steps).replica) ≡ None →
    IsAfter (record was { last = Other }) (quiet Read ∷ steps)
idle-after was steps after asked =
    turned was (record was { last = Other }) (quiet Read) steps after refl refl tt
    (ap (λ o. refuses_read o None (played_by steps).replica) asked) after.server
    (subst (λ o. StandsFor was.replica (played_by steps).wrap (named script_names (and_read o None (played_by steps).replica))) (sym asked) after.replica)
    after.sent after.found after.clock after.reply refl after.wrap

-- a scan, whatever it was answered but that memory ran out
scan-serves : (wrap first : ℕ) (commands : List Command) (records : List Record) (answer : Result Span ApplyError) (old new : Serving) →
    ServerStandsFor old (script_start wrap first) commands → Scanned (script_start wrap first) commands records answer old new → was_answered answer ≡ true →
    ServerStandsFor new (script_start wrap first) (scanned (scan_answer (scans_of first commands) records) records commands)
scan-serves wrap first commands records (Ok span) old new stands applied told =
    subst (λ a. ServerStandsFor new (script_start wrap first) (scanned a records commands)) (sym applied.0) applied.1
scan-serves wrap first commands records (Err (BadRecords line)) old new stands applied told =
    subst (λ a. ServerStandsFor new (script_start wrap first) (scanned a records commands)) (sym applied.0)
    (subst (λ s. ServerStandsFor s (script_start wrap first) commands) (sym applied.1) stands)
scan-serves wrap first commands records (Err (Full objects)) old new stands applied told =
    subst (λ a. ServerStandsFor new (script_start wrap first) (scanned a records commands)) (sym applied.0)
    (subst (λ s. ServerStandsFor s (script_start wrap first) commands) (sym applied.1) stands)
scan-serves wrap first commands records (Err (Spent needed)) old new stands applied told =
    subst (λ a. ServerStandsFor new (script_start wrap first) (scanned a records commands)) (sym applied.0)
    (subst (λ s. ServerStandsFor s (script_start wrap first) commands) (sym applied.1) stands)
scan-serves wrap first commands records (Err NoMemory) old new stands applied told = absurd (cc)

-- which sends nothing
scanned-notes : (first : ℕ) (records : List Record) (commands : List Command) (answer : ScanAnswer) → tellings_of first commands ≡ tellings_of first (scanned answer records commands)
scanned-notes first records commands Accepted = sym (append-nil (tellings_of first commands))
scanned-notes first records commands (BadRecord line) = refl
scanned-notes first records commands (TooMany objects) = refl
scanned-notes first records commands (NoNumbers needed) = refl

pub scan-after : (was : Playing) (server : Serving) (answer : Result Span ApplyError) (steps : List ReplayStep) → IsAfter was steps →
    Scanned (script_start (played_by steps).wrap (first_of (turns_in steps))) (played_by steps).commands (records_since (turns_in steps)) answer was.server server → was_answered answer ≡ true →
    IsAfter (record was { server = server; found = []; last = Other }) (quiet Scan ∷ steps)
scan-after was server answer steps after scans told =
    let wrap = (played_by steps).wrap in
    let first = first_of (turns_in steps) in
    let records = records_since (turns_in steps) in
    let commands = (played_by steps).commands in
    turned was (record was { server = server; found = []; last = Other }) (quiet Scan) steps after refl refl tt refl
    (scan-serves wrap first commands records answer was.server server after.server scans told)
    after.replica
    (sent-same wrap was.sent (tellings_of first commands) (tellings_of first (scanned (scan_answer (scans_of first commands) records) records commands))
    (scanned-notes first records commands (scan_answer (scans_of first commands) records)) after.sent)
    refl after.clock after.reply refl after.wrap

-- the first number: nothing came before it
pub begin-after : (was : Playing) (server : Serving) (number : ℕ) (steps : List ReplayStep) → IsAfter was steps → was.last ≡ NoTurn → number ≤ 4294967295 →
    ServerStandsFor server (script_start last_seq number) [] → IsAfter (record was { server = server; last = OfFirst number }) (quiet (First number) ∷ steps)
begin-after was server number [] after none low stands = record {
  may = record { stand = (refl, low, refl, tt); number = low };
  server = stands;
  replica = after.replica;
  sent = after.sent;
  found = after.found;
  clock = after.clock;
  reply = after.reply;
  last = refl;
  wrap = after.wrap;
}
begin-after was server number (step ∷ older) after none low stands = absurd (last-some step.turn (turns_in older) (sym after.last ∙ none))

-- the wrap: nothing came before it but the first number
no-notes : (wrap other : ℕ) (sent : List SentNote) → AreSentAs wrap sent [] → AreSentAs other sent []
no-notes wrap other [] are = tt
no-notes wrap other (one ∷ sent) are = absurd are

none-before : (older : List ReplayStep) (number : ℕ) → may_stand_by older (First number) ≡ true → older ≡ []
none-before [] number stands = refl
none-before (step ∷ older) number stands = let never : suc (length (turns_in older)) ≡ 0 = eqb-true (suc (length (turns_in older))) 0 stands in absurd (omega (arith, never))

-- so the turns before it are none, or one
record AtBeginning (was : Playing) (steps : List ReplayStep) : Type 0 where
  commands : (played_by steps).commands ≡ []
  replica : (played_by steps).replica ≡ []
  first : first_of (turns_in steps) ≡ first_in was.last

first-begins : (was : Playing) (step : ReplayStep) (older : List ReplayStep) → IsAfter was (step ∷ older) → is_first step.turn ≡ true → (number : ℕ) → step.turn ≡ First number →
    AtBeginning was (step ∷ older)
first-begins was step older after is number named =
    let none : older ≡ [] = none-before older number (sym (ap (may_stand_by older) named) ∙ after.may.stand.0) in
    let plays : ScriptTurn → Played = λ turn. play_read step.read (first_of (turns_in older)) (clock_of (turns_in older)) (records_since (turns_in older)) (played_by older) turn in
    record {
      commands = ap (λ turn. (plays turn).commands) named ∙ ap (λ steps. (played_by steps).commands) none;
      replica = ap (λ turn. (plays turn).replica) named ∙ ap (λ steps. (played_by steps).replica) none;
      first = (λ i. first_of (named i ∷ turns_in (none i))) ∙ sym (ap first_in (after.last ∙ ap (λ turn. last_of (turn ∷ turns_in older)) named));
    }

first-turn : (turn : ScriptTurn) → is_first turn ≡ true → (number : ℕ) × (turn ≡ First number)
first-turn (First number) is = (number, refl)
first-turn (Folder path) is = absurd (cc)
first-turn (Track path info size) is = absurd (cc)
first-turn (Tag comment) is = absurd (cc)
first-turn Scan is = absurd (cc)
first-turn Load is = absurd (cc)
first-turn Read is = absurd (cc)
first-turn Ask is = absurd (cc)
first-turn (Wrap number) is = absurd (cc)
first-turn (At moment) is = absurd (cc)
first-turn Subscribe is = absurd (cc)
first-turn Accept is = absurd (cc)
first-turn Renew is = absurd (cc)
first-turn Unsubscribe is = absurd (cc)
first-turn (Deliver note) is = absurd (cc)
first-turn ReadFault is = absurd (cc)

begins-so : (was : Playing) (steps : List ReplayStep) → IsAfter was steps → list_all is_first (turns_in steps) ≡ true → AtBeginning was steps
begins-so was [] after all = record { commands = refl; replica = refl; first = sym (ap first_in after.last) }
begins-so was (step ∷ older) after all =
    let is : is_first step.turn ≡ true = (and_parts _ _ all).0 in
    let one = first-turn step.turn is in first-begins was step older after is one.0 one.1

-- what the last turn was tells whether all were so
pub begins-is : (was : Playing) (steps : List ReplayStep) → IsAfter was steps → is_beginning was.last ≡ list_all is_first (turns_in steps)
begins-is was [] after = ap is_beginning after.last
begins-is was (step ∷ older) after = by step.turn refl
  where
    told : (turn : ScriptTurn) → step.turn ≡ turn → is_beginning was.last ≡ is_beginning (last_of (turn ∷ turns_in older))
    told turn e = ap is_beginning after.last ∙ ap (λ t. is_beginning (last_of (t ∷ turns_in older))) e

    by : (turn : ScriptTurn) → step.turn ≡ turn → is_beginning was.last ≡ list_all is_first (turn ∷ turns_in older)
    by (First number) e =
        let none : older ≡ [] = none-before older number (sym (ap (may_stand_by older) e) ∙ after.may.stand.0) in
        told (First number) e ∙ sym (ap (λ o. list_all is_first (turns_in o)) none)
    by (Folder path) e = told (Folder path) e
    by (Track path info size) e = told (Track path info size) e
    by (Tag comment) e = told (Tag comment) e
    by Scan e = told Scan e
    by Load e = told Load e
    by Read e = told Read e
    by Ask e = told Ask e
    by (Wrap number) e = told (Wrap number) e
    by (At moment) e = told (At moment) e
    by Subscribe e = told Subscribe e
    by Accept e = told Accept e
    by Renew e = told Renew e
    by Unsubscribe e = told Unsubscribe e
    by (Deliver note) e = told (Deliver note) e
    by ReadFault e = told ReadFault e

pub with-after : (was : Playing) (server : Serving) (replica : ReplicaState) (wrap : ℕ) (steps : List ReplayStep) → IsAfter was steps → may_stand_by steps (Wrap wrap) ≡ true →
    wrap ≤ 4294967295 → ServerStandsFor server (script_start wrap (first_in was.last)) [] → StandsFor replica wrap [] →
    IsAfter (record was { server = server; replica = replica; last = Other; wrap = wrap }) (quiet (Wrap wrap) ∷ steps)
with-after was server replica wrap steps after may low serves stands =
    let b = begins-so was steps after (and_parts _ _ may).1 in
    let same : first_of (turns_in (quiet (Wrap wrap) ∷ steps)) ≡ first_of (turns_in steps) = first-more (Wrap wrap) (turns_in steps) refl in
    record {
      may = record { stand = (may, low, refl, after.may.stand); number = subst (λ n. n ≤ 4294967295) (sym same) after.may.number };
      server = subst (λ n. ServerStandsFor server (script_start wrap n) (played_by steps).commands) (sym same)
          (subst (λ n. ServerStandsFor server (script_start wrap n) (played_by steps).commands) (sym b.first) (subst (ServerStandsFor server (script_start wrap (first_in was.last))) (sym b.commands) serves));
      replica = subst (λ turns. StandsFor replica wrap (named script_names turns)) (sym b.replica) stands;
      sent = subst (λ n. AreSentAs wrap was.sent (tellings_of n (played_by steps).commands)) (sym same)
          (subst (λ commands. AreSentAs wrap was.sent (tellings_of (first_of (turns_in steps)) commands)) (sym b.commands)
          (no-notes (played_by steps).wrap wrap was.sent (subst (λ commands. AreSentAs (played_by steps).wrap was.sent (tellings_of (first_of (turns_in steps)) commands)) b.commands after.sent)));
      found = after.found;
      clock = after.clock;
      reply = after.reply;
      last = refl;
      wrap = refl;
    }

-- a tick at a moment that is not before the current one
pub tick-after : (was : Playing) (server : Serving) (sent : List SentNote) (moment : ℕ) (steps : List ReplayStep) → IsAfter was steps → was.clock ≤ moment → moment < moment_limit →
    ServerStandsFor server (script_start (played_by steps).wrap (first_of (turns_in steps))) (Ticks moment ∷ (played_by steps).commands) →
    AreSentAs (played_by steps).wrap sent (tellings_by (first_of (turns_in steps)) (played_by steps).commands (Ticks moment)) →
    IsAfter (record was { server = server; sent = was.sent ++ sent; clock = moment; last = Other }) (quiet (At moment) ∷ steps)
tick-after was server sent moment steps after low within stands sends =
    turned was (record was { server = server; sent = was.sent ++ sent; clock = moment; last = Other }) (quiet (At moment)) steps after refl
    (ap (λ n. nat_le n moment) (sym after.clock) ∙ le-leb was.clock moment low) within refl stands after.replica
    (sent-append (played_by steps).wrap was.sent sent (tellings_of (first_of (turns_in steps)) (played_by steps).commands)
    (tellings_by (first_of (turns_in steps)) (played_by steps).commands (Ticks moment)) after.sent sends)
    after.found refl after.reply refl after.wrap

-- a subscribe request, with its answer: it grants a name or refuses, and the first note is sent with the grant alone
abbrev pub Subscribes : Bool → ℕ → ℕ → ℕ → List Command → List ℕ → List SentNote → Serving → Type 0
Subscribes true wrap first now commands reply sent server =
    (reply ≡ lease_reply (script_names (granted commands + 1)) granted_seconds) × (granted commands + 1 < 2 ^ 32)
    × AreSentAs wrap sent (tellings_by first commands (grant_at now)) × ServerStandsFor server (script_start wrap first) (grant_at now ∷ commands)
Subscribes false wrap first now commands reply sent server = (reply ≡ empty_reply 503) × AreSentAs wrap sent [] × ServerStandsFor server (script_start wrap first) commands

pub subscribe-after : (was : Playing) (server : Serving) (replica : ReplicaState) (reply : List ℕ) (sent : List SentNote) (steps : List ReplayStep) → IsAfter was steps →
    GoesOn was.replica Requests replica →
    Subscribes (has_room (clock_of (turns_in steps)) (played_by steps).commands)
    (played_by steps).wrap (first_of (turns_in steps)) (clock_of (turns_in steps)) (played_by steps).commands reply sent server →
    IsAfter (record was { server = server; replica = replica; sent = was.sent ++ sent; reply = Some reply; last = Other }) (quiet Subscribe ∷ steps)
subscribe-after was server replica reply sent steps after goes subscribes = by room refl subscribes
  where
    wrap : ℕ
    wrap = (played_by steps).wrap

    first : ℕ
    first = first_of (turns_in steps)

    now : ℕ
    now = clock_of (turns_in steps)

    p : Played
    p = played_by steps

    granting : Played
    granting = record p { commands = grant_at now ∷ p.commands; replica = Requests ∷ p.replica; reply = Named (granted p.commands + 1) }

    refusing : Played
    refusing = record p { replica = Requests ∷ p.replica; reply = Refusal }

    room : Bool
    room = has_room now p.commands

    replica-on : StandsFor replica wrap (named script_names (Requests ∷ p.replica))
    replica-on = goes wrap (named script_names p.replica) after.replica

    by : (b : Bool) → room ≡ b → Subscribes b wrap first now p.commands reply sent server →
        IsAfter (record was { server = server; replica = replica; sent = was.sent ++ sent; reply = Some reply; last = Other }) (quiet Subscribe ∷ steps)
    by false e s =
        turned was (record was { server = server; replica = replica; sent = was.sent ++ sent; reply = Some reply; last = Other }) (quiet Subscribe) steps after refl refl tt refl
        (subst (λ b. ServerStandsFor server (script_start (cond b granting refusing).wrap first) (cond b granting refusing).commands) (sym e) s.2)
        (subst (λ b. StandsFor replica (cond b granting refusing).wrap (named script_names (cond b granting refusing).replica)) (sym e) replica-on)
        (subst (λ b. AreSentAs (cond b granting refusing).wrap (was.sent ++ sent) (tellings_of first (cond b granting refusing).commands)) (sym e)
        (sent-same wrap (was.sent ++ sent) (tellings_of first p.commands ++ []) (tellings_of first p.commands) (append-nil (tellings_of first p.commands))
        (sent-append wrap was.sent sent (tellings_of first p.commands) [] after.sent s.1)))
        after.found after.clock
        (subst (λ b. IsHeldAs (Some reply) (cond b granting refusing).reply) (sym e) s.0) refl
        (subst (λ b. was.wrap ≡ (cond b granting refusing).wrap) (sym e) after.wrap)
    by true e s =
        turned was (record was { server = server; replica = replica; sent = was.sent ++ sent; reply = Some reply; last = Other }) (quiet Subscribe) steps after refl refl tt refl
        (subst (λ b. ServerStandsFor server (script_start (cond b granting refusing).wrap first) (cond b granting refusing).commands) (sym e) s.3)
        (subst (λ b. StandsFor replica (cond b granting refusing).wrap (named script_names (cond b granting refusing).replica)) (sym e) replica-on)
        (subst (λ b. AreSentAs (cond b granting refusing).wrap (was.sent ++ sent) (tellings_of first (cond b granting refusing).commands)) (sym e)
        (sent-append wrap was.sent sent (tellings_of first p.commands) (tellings_by first p.commands (grant_at now)) after.sent s.2))
        after.found after.clock
        (subst (λ b. IsHeldAs (Some reply) (cond b granting refusing).reply) (sym e) (s.0, s.1)) refl
        (subst (λ b. was.wrap ≡ (cond b granting refusing).wrap) (sym e) after.wrap)

-- the reply that was held back reaches the replica: there is none, or a refusal, or a name
none-held : (reply : HeldReply) → IsHeldAs None reply → reply ≡ NoReply
none-held NoReply is = refl
none-held (Named name) is = absurd is
none-held Refusal is = absurd is

pub held-none : (was : Playing) (steps : List ReplayStep) → IsAfter was steps → was.reply ≡ None → (played_by steps).reply ≡ NoReply
held-none was steps after none = none-held (played_by steps).reply (subst (λ r. IsHeldAs r (played_by steps).reply) none after.reply)

pub none-after : (was : Playing) (steps : List ReplayStep) → IsAfter was steps → was.reply ≡ None → IsAfter (record was { reply = None; last = Other }) (quiet Accept ∷ steps)
none-after was steps after none =
    let held = held-none was steps after none in
    turned was (record was { reply = None; last = Other }) (quiet Accept) steps after refl refl tt
    (ap (λ r. refuses_reply r (played_by steps).replica) held) after.server
    (subst (λ r. StandsFor was.replica (played_by steps).wrap (named script_names (after_reply r (played_by steps).replica))) (sym held) after.replica)
    after.sent after.found after.clock tt refl after.wrap

pub accept-after : (was : Playing) (replica : ReplicaState) (steps : List ReplayStep) → IsAfter was steps →
    refuses_reply (played_by steps).reply (played_by steps).replica ≡ false → StandsFor replica (played_by steps).wrap (named script_names (after_reply (played_by steps).reply (played_by steps).replica)) →
    IsAfter (record was { replica = replica; reply = None; last = Other }) (quiet Accept ∷ steps)
accept-after was replica steps after takes stands =
    turned was (record was { replica = replica; reply = None; last = Other }) (quiet Accept) steps after refl refl tt takes after.server stands
    after.sent after.found after.clock tt refl after.wrap

-- the subscription that was accepted last is renewed or given up, if there is one
renewed-notes : (first now : ℕ) (commands : List Command) (o : Option ℕ) → tellings_of first commands ≡ tellings_of first (with_renewal o now commands)
renewed-notes first now commands None = refl
renewed-notes first now commands (Some name) = by (lives name now commands)
  where
    by : (b : Bool) → tellings_of first commands ≡ tellings_of first (cond b (Renews now name granted_seconds ∷ commands) commands)
    by true = sym (append-nil (tellings_of first commands))
    by false = refl

ended-notes : (first now : ℕ) (commands : List Command) (o : Option ℕ) → tellings_of first commands ≡ tellings_of first (given_up o now commands)
ended-notes first now commands None = refl
ended-notes first now commands (Some name) = by (lives name now commands)
  where
    by : (b : Bool) → tellings_of first commands ≡ tellings_of first (cond b (Ends now name ∷ commands) commands)
    by true = sym (append-nil (tellings_of first commands))
    by false = refl

pub renew-after : (was : Playing) (server : Serving) (steps : List ReplayStep) → IsAfter was steps →
    ServerStandsFor server (script_start (played_by steps).wrap (first_of (turns_in steps)))
    (with_renewal (accepted (played_by steps).replica) (clock_of (turns_in steps)) (played_by steps).commands) →
    IsAfter (record was { server = server; last = Other }) (quiet Renew ∷ steps)
renew-after was server steps after stands =
    let first = first_of (turns_in steps) in
    let now = clock_of (turns_in steps) in
    let p = played_by steps in
    turned was (record was { server = server; last = Other }) (quiet Renew) steps after refl refl tt refl stands after.replica
    (sent-same p.wrap was.sent (tellings_of first p.commands) (tellings_of first (with_renewal (accepted p.replica) now p.commands))
    (renewed-notes first now p.commands (accepted p.replica)) after.sent)
    after.found after.clock after.reply refl after.wrap

pub end-after : (was : Playing) (server : Serving) (steps : List ReplayStep) → IsAfter was steps →
    ServerStandsFor server (script_start (played_by steps).wrap (first_of (turns_in steps)))
    (given_up (accepted (played_by steps).replica) (clock_of (turns_in steps)) (played_by steps).commands) →
    IsAfter (record was { server = server; last = Other }) (quiet Unsubscribe ∷ steps)
end-after was server steps after stands =
    let first = first_of (turns_in steps) in
    let now = clock_of (turns_in steps) in
    let p = played_by steps in
    turned was (record was { server = server; last = Other }) (quiet Unsubscribe) steps after refl refl tt refl stands after.replica
    (sent-same p.wrap was.sent (tellings_of first p.commands) (tellings_of first (given_up (accepted p.replica) now p.commands))
    (ended-notes first now p.commands (accepted p.replica)) after.sent)
    after.found after.clock after.reply refl after.wrap

-- a note that was sent reaches the replica
pub deliver-after : (was : Playing) (replica : ReplicaState) (number : ℕ) (note : Note) (steps : List ReplayStep) → IsAfter was steps → may_stand_by steps (Deliver number) ≡ true →
    sent_note number (notes_of (first_of (turns_in steps)) (played_by steps).commands) ≡ Some note → refuses_note (played_by steps).wrap (Some note) (played_by steps).replica ≡ false →
    StandsFor replica (played_by steps).wrap (named script_names (after_note (reaching (played_by steps).wrap (played_by steps).replica (Some note)) (played_by steps).replica)) →
    IsAfter (record was { replica = replica; last = Other }) (quiet (Deliver number) ∷ steps)
deliver-after was replica number note steps after may is takes stands =
    let p = played_by steps in
    turned was (record was { replica = replica; last = Other }) (quiet (Deliver number)) steps after refl may tt
    (ap (λ o. refuses_note p.wrap o p.replica) is ∙ takes) after.server
    (subst (λ o. StandsFor replica p.wrap (named script_names (after_note (reaching p.wrap p.replica o) p.replica))) (sym is) stands)
    after.sent after.found after.clock after.reply refl after.wrap

pub no-note-after : (was : Playing) (number : ℕ) (steps : List ReplayStep) → IsAfter was steps → may_stand_by steps (Deliver number) ≡ true →
    sent_note number (notes_of (first_of (turns_in steps)) (played_by steps).commands) ≡ None →
    IsAfter (record was { last = Other }) (quiet (Deliver number) ∷ steps)
no-note-after was number steps after may is =
    let p = played_by steps in
    turned was (record was { last = Other }) (quiet (Deliver number)) steps after refl may tt
    (ap (λ o. refuses_note p.wrap o p.replica) is) after.server
    (subst (λ o. StandsFor was.replica p.wrap (named script_names (after_note (reaching p.wrap p.replica o) p.replica))) (sym is) after.replica)
    after.sent after.found after.clock after.reply refl after.wrap

-- one thing found more
pub folder-after : (was : Playing) (path : List (List ℕ)) (steps : List ReplayStep) → IsAfter was steps → IsAfter (with_found was (FolderFound path)) (quiet (Folder path) ∷ steps)
folder-after was path steps after =
    turned was (with_found was (FolderFound path)) (quiet (Folder path)) steps after refl refl tt refl after.server after.replica after.sent
    (ap (λ f. f ++ FolderFound path ∷ []) after.found) after.clock after.reply refl after.wrap

pub track-after : (was : Playing) (path : List (List ℕ)) (info : FlacInfo) (size : ℕ) (steps : List ReplayStep) → IsAfter was steps → IsInRange (Track path info size) →
    IsAfter (with_found was (TrackFound (record { path = path; info = info; size = size }))) (quiet (Track path info size) ∷ steps)
track-after was path info size steps after plain =
    turned was (with_found was (TrackFound (record { path = path; info = info; size = size }))) (quiet (Track path info size)) steps after refl refl plain refl after.server
    after.replica after.sent
    (ap (λ f. f ++ TrackFound (record { path = path; info = info; size = size }) ∷ []) after.found) after.clock after.reply refl after.wrap

-- a comment for the last one
pub tag-after : (was : Playing) (comment : Comment) (steps : List ReplayStep) → IsAfter was steps → may_stand_by steps (Tag comment) ≡ true →
    IsAfter (with_tag was comment) (quiet (Tag comment) ∷ steps)
tag-after was comment steps after stands =
    turned was (with_tag was comment) (quiet (Tag comment)) steps after refl stands tt refl after.server after.replica after.sent
    (ap (last_commented comment) after.found) after.clock after.reply refl after.wrap
