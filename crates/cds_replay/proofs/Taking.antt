-- A read, a reply and a note, as the steps that they are.
use Rattle.std.proofs.Common.{◌≡◌, ℕ, true, List, ◌++◌, Option, Some, None, Result, Ok, Err, refl, ap, sym, subst, ◌∙◌}
use Rattle.std.specs.Prelude.{codes}
use Rattle.std.proofs.lemmas.List.{append-nil}
use Rattle.cds_load.specs.Server.{Moment}
use Rattle.cds_load.specs.declared.exchange.Ask.{Ask as Asked}
use Rattle.cds_load.specs.declared.exchange.Shown.{Shown}
use Rattle.cds_exchange.specs.Readings.{IsReading}
use Rattle.cds_commands.specs.Notes.{Note, notes_of}
use Rattle.cds_commands.specs.Wire.{on_wire}
use Rattle.cds_follow.specs.Inbox.{ReplicaTurn}
use Rattle.cds_follow.specs.Follow.{known_by, next_ask}
use Rattle.cds_follow.specs.Named.{named, named_note}
use Rattle.cds_replica.specs.Replies.{IsNextReading}
use Rattle.cds_replica.specs.State.{ReplicaState, StandsFor}
use Rattle.cds_script.specs.Report.{first_of, sent_note, after_reply, accept_text, deliver_text}
use Rattle.cds_script.specs.declared.reply.HeldReply.{HeldReply}
use Rattle.cds_script.specs.declared.reply.HeldReply.TheVariants.{NoReply, Named, Refusal}
use Rattle.cds_script.specs.declared.turn.ScriptTurn.TheVariants.{Read, Accept, Deliver}
use Rattle.cds_server.specs.Serving.{Serving}
use Rattle.cds_replay.specs.Events.{IsNoteRequest}
use Rattle.cds_replay.specs.Sending.{SentNote, is_request_of}
use Rattle.cds_replay.specs.Session.{Playing, IsAfter, IsHeldAs, TurnTaken, QuietTaken, ReplyTaken, HeldTaken, NoteTaken, script_names}
use Rattle.cds_replay.specs.Wire.{server_reply, IsLeftOf}
use Rattle.cds_replay.specs.Wired.{ReplayStep, turns_in, played_by, moment_by, may_stand_by, refuses_read, refuses_reply, refuses_note, read_text_by}
use Rattle.cds_replay.specs.declared.last.Last.TheVariants.{Other}
use Rattle.cds_replay.specs.declared.session.TurnError.{TurnError}
use Rattle.cds_replay.specs.declared.session.TurnError.TheVariants.{Refused, Mem as NoMemory}
use Rattle.cds_replay.proofs.EventReads.{note-read}
use Rattle.cds_replay.proofs.SentNotes.{IsAt}
use Rattle.cds_replay.proofs.Turns.{read-after, idle-after, held-none, none-after, accept-after, deliver-after, no-note-after}

-- ---- a read

left-is : (carried : List ℕ → List ℕ) (moment : Moment) (o : Option Asked) (ask : Asked) (reply : List ℕ) (read : Option Shown) → o ≡ Some ask →
    reply ≡ carried (server_reply moment ask) → IsNextReading o reply read → IsLeftOf carried moment o read
left-is carried moment o ask reply read asks is next =
    subst (λ a. IsLeftOf carried moment a read) (sym asks)
    (subst (λ bytes. IsReading ask bytes read) is (subst (λ a. IsNextReading a reply read) asks next))

pub read-turn : (carried : List ℕ → List ℕ) (was : Playing) (server : Serving) (replica : ReplicaState) (steps : List ReplayStep) (ask : Asked) (reply old new : List ℕ)
    (result : Result (Unit {0}) TurnError) → IsAfter was steps → next_ask (known_by (played_by steps).replica) ≡ Some ask → server ≡ was.server →
    reply ≡ carried (server_reply (moment_by steps) ask) → ReplyTaken (played_by steps).wrap (played_by steps).replica reply old new replica result →
    TurnTaken carried steps Read old new (record was { server = server; replica = replica; last = Other }) result
read-turn carried was server replica steps ask reply old new (Ok done) after asks same is t = (
  t.0,
  left-is carried (moment_by steps) (next_ask (known_by (played_by steps).replica)) ask reply t.0 asks is t.1,
  record { takes = t.2.takes; after = read-after was server replica t.0 steps after same t.2.takes t.2.stands; out = t.2.out },
)
read-turn carried was server replica steps ask reply old new (Err Refused) after asks same is t = (
  t.0,
  left-is carried (moment_by steps) (next_ask (known_by (played_by steps).replica)) ask reply t.0 asks is t.1,
  record { refused = t.2.refused; out = t.2.out },
)
read-turn carried was server replica steps ask reply old new (Err NoMemory) after asks same is t = tt

pub idle-turn : (carried : List ℕ → List ℕ) (was : Playing) (steps : List ReplayStep) (old new : List ℕ) → IsAfter was steps →
    next_ask (known_by (played_by steps).replica) ≡ None → new ≡ old ++ codes "read none\n" →
    TurnTaken carried steps Read old new (record was { last = Other }) (Ok tt)
idle-turn carried was steps old new after asks wrote = (
  None,
  subst (λ o. IsLeftOf carried (moment_by steps) o None) (sym asks) refl,
  record {
    takes = ap (λ o. refuses_read o None (played_by steps).replica) asks;
    after = idle-after was steps after asks;
    out = wrote ∙ ap (λ o. old ++ read_text_by o None) (sym asks);
  },
)

-- ---- the reply that was held back

pub held-turn : (was : Playing) (replica : ReplicaState) (reply : List ℕ) (steps : List ReplayStep) (old new : List ℕ) (result : Result (Unit {0}) TurnError) → IsAfter was steps →
    was.reply ≡ Some reply → HeldTaken (played_by steps).wrap (played_by steps).replica (played_by steps).reply old new replica result →
    QuietTaken steps Accept old new (record was { replica = replica; reply = None; last = Other }) result
held-turn was replica reply steps old new result after is taken =
    by (played_by steps).reply refl result (subst (λ r. IsHeldAs r (played_by steps).reply) is after.reply) taken
  where
    turns : List ReplicaTurn
    turns = (played_by steps).replica

    by : (h : HeldReply) → (played_by steps).reply ≡ h → (result : Result (Unit {0}) TurnError) → IsHeldAs (Some reply) h → HeldTaken (played_by steps).wrap turns h old new replica result →
        QuietTaken steps Accept old new (record was { replica = replica; reply = None; last = Other }) result
    by NoReply e result held t = absurd held
    by (Named name) e (Ok done) held t = record {
      takes = ap (λ r. refuses_reply r turns) e ∙ t.takes;
      after = accept-after was replica steps after (ap (λ r. refuses_reply r turns) e ∙ t.takes)
          (subst (λ r. StandsFor replica (played_by steps).wrap (named script_names (after_reply r turns))) (sym e) t.stands);
      out = t.out ∙ ap (λ r. old ++ accept_text r) (sym e);
    }
    by (Named name) e (Err Refused) held t = record { refused = ap (λ r. refuses_reply r turns) e ∙ t.refused; out = t.out }
    by (Named name) e (Err NoMemory) held t = tt
    by Refusal e (Ok done) held t = record {
      takes = ap (λ r. refuses_reply r turns) e;
      after = accept-after was replica steps after (ap (λ r. refuses_reply r turns) e)
          (subst (λ r. StandsFor replica (played_by steps).wrap (named script_names (after_reply r turns))) (sym e) t.stands);
      out = t.out ∙ ap (λ r. old ++ accept_text r) (sym e);
    }
    by Refusal e (Err Refused) held t = absurd t
    by Refusal e (Err NoMemory) held t = tt

pub none-turn : (was : Playing) (steps : List ReplayStep) (old new : List ℕ) → IsAfter was steps → was.reply ≡ None → new ≡ old ++ codes "accept none\n" →
    QuietTaken steps Accept old new (record was { reply = None; last = Other }) (Ok tt)
none-turn was steps old new after none wrote =
    let held : (played_by steps).reply ≡ NoReply = held-none was steps after none in
    record {
      takes = ap (λ r. refuses_reply r (played_by steps).replica) held;
      after = none-after was steps after none;
      out = wrote ∙ ap (λ r. old ++ accept_text r) (sym held);
    }

-- ---- a note

pub deliver-turn : (was : Playing) (replica : ReplicaState) (number : ℕ) (note : Note) (steps : List ReplayStep) (old new : List ℕ) (result : Result (Unit {0}) TurnError) →
    IsAfter was steps → may_stand_by steps (Deliver number) ≡ true → sent_note number (notes_of (first_of (turns_in steps)) (played_by steps).commands) ≡ Some note →
    NoteTaken (played_by steps).wrap (played_by steps).replica number note old new replica result →
    QuietTaken steps (Deliver number) old new (record was { replica = replica; last = Other }) result
deliver-turn was replica number note steps old new (Ok done) after may is t = record {
  takes = ap (λ o. refuses_note (played_by steps).wrap o (played_by steps).replica) is ∙ t.takes;
  after = deliver-after was replica number note steps after may is t.takes t.stands;
  out = t.out ∙ ap (λ o. old ++ deliver_text (played_by steps).wrap number o (played_by steps).replica) (sym is);
}
deliver-turn was replica number note steps old new (Err Refused) after may is t =
    record { refused = ap (λ o. refuses_note (played_by steps).wrap o (played_by steps).replica) is ∙ t.refused; out = t.out }
deliver-turn was replica number note steps old new (Err NoMemory) after may is t = tt

pub no-note-turn : (was : Playing) (number : ℕ) (steps : List ReplayStep) (out : List ℕ) → IsAfter was steps → may_stand_by steps (Deliver number) ≡ true →
    sent_note number (notes_of (first_of (turns_in steps)) (played_by steps).commands) ≡ None →
    QuietTaken steps (Deliver number) out out (record was { last = Other }) (Ok tt)
no-note-turn was number steps out after may is = record {
  takes = ap (λ o. refuses_note (played_by steps).wrap o (played_by steps).replica) is;
  after = no-note-after was number steps after may is;
  out = sym (append-nil out) ∙ ap (λ o. out ++ deliver_text (played_by steps).wrap number o (played_by steps).replica) (sym is);
}

-- ---- the request that carries it

pub none-sent : (wrap : ℕ) (o : Option SentNote) (n : Option Note) → IsAt wrap o n → is_request_of o None → n ≡ None
none-sent wrap None None at is = refl
none-sent wrap None (Some note) at is = absurd at
none-sent wrap (Some sent) n at is = absurd is

-- the note that bytes carry
pub record IsCarried (wrap : ℕ) (request : List ℕ) (n : Option Note) : Type 0 where
  pub note : Note
  pub is : n ≡ Some note
  pub carried : IsNoteRequest request (on_wire wrap (named_note script_names note))

pub some-sent : (wrap : ℕ) (o : Option SentNote) (n : Option Note) (request : List ℕ) → IsAt wrap o n → is_request_of o (Some request) → IsCarried wrap request n
some-sent wrap None n request at is = absurd (cc)
some-sent wrap (Some sent) None request at is = absurd at
some-sent wrap (Some sent) (Some note) request at is = record { note = note; is = refl; carried = note-read wrap sent note at.0 request at.1 is }
