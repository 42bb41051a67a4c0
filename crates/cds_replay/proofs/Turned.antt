-- A session after one more step.
use Rattle.std.proofs.Common.{◌≡◌, ◌+◌, ◌≤◌, ◌<◌, ℕ, List, [], ◌∷◌, length, Bool, true, false, suc, cond, refl, ap, sym, subst, arith, length-append}
use Rattle.std.specs.Prelude.{Option, Some, None}
use Rattle.cds_object.specs.declared.record.Record.{Record}
use Rattle.cds_object.specs.declared.info.Comment.{Comment}
use Rattle.cds_load.specs.declared.exchange.Shown.{Shown}
use Rattle.cds_catalog.specs.Scans.{ScanAnswer, Accepted, BadRecord, TooMany, NoNumbers, scan_answer}
use Rattle.cds_commands.specs.Commands.{Command, Renews, Ends, scans_of}
use Rattle.cds_commands.specs.Notes.{has_room}
use Rattle.cds_commands.specs.Subscriptions.{granted}
use Rattle.cds_gena.specs.Subscribed.{Subscribed}
use Rattle.cds_follow.specs.Inbox.{Requests, accepted}
use Rattle.cds_follow.specs.Named.{named}
use Rattle.cds_replica.specs.State.{StandsFor}
use Rattle.cds_script.specs.declared.found.Found.{Found}
use Rattle.cds_script.specs.declared.reply.HeldReply.TheVariants.{Named, Refusal}
use Rattle.cds_script.specs.declared.turn.ScriptTurn.{ScriptTurn}
use Rattle.cds_script.specs.declared.turn.ScriptTurn.TheVariants.{Folder, Track, Tag, Scan, Load, Read, Ask, First, Wrap, At, Subscribe, Accept, Renew, Unsubscribe, Deliver, ReadFault}
use Rattle.cds_script.specs.Report.{Played, number_of, first_of, clock_of, records_since, found_since, last_commented, scanned, given_up, with_renewal, lives}
use Rattle.cds_script.specs.Script.{IsInRange, grant_at, granted_seconds, moment_limit}
use Rattle.cds_server.specs.Serving.{StandsFor as ServerStandsFor}
use Rattle.cds_replay.specs.declared.last.Last.TheVariants.{NoTurn}
use Rattle.cds_replay.specs.Wired.{ReplayStep, turns_in, play_read, played_by, may_stand_by, refuses}
use Rattle.cds_replay.specs.Session.{Playing, IsAfter, Grows, AreSentAs, IsHeldAs, tellings_of, last_of, script_start, script_names}

-- the first number is that of the oldest turn
pub first-more : (turn : ScriptTurn) (turns : List ScriptTurn) → number_of turn ≡ 0 → first_of (turn ∷ turns) ≡ first_of turns
first-more turn [] none = none
first-more turn (next ∷ older) none = refl

-- after a turn the last one is not none
pub last-some : (turn : ScriptTurn) (older : List ScriptTurn) → last_of (turn ∷ older) ≡ NoTurn → ⊥
last-some (Folder path) older e = cc
last-some (Track path info size) older e = cc
last-some (Tag comment) older e = cc
last-some Scan older e = cc
last-some Load older e = cc
last-some Read older e = cc
last-some Ask older e = cc
last-some (First n) older e = cc
last-some (Wrap n) older e = cc
last-some (At n) older e = cc
last-some Subscribe older e = cc
last-some Accept older e = cc
last-some Renew older e = cc
last-some Unsubscribe older e = cc
last-some (Deliver n) older e = cc
last-some ReadFault older e = cc

-- after a turn that names neither a first number nor a wrap
pub turned : (was new : Playing) (step : ReplayStep) (steps : List ReplayStep) → IsAfter was steps → number_of step.turn ≡ 0 → may_stand_by steps step.turn ≡ true →
    IsInRange step.turn → refuses steps step ≡ false →
    ServerStandsFor new.server (script_start (played_by (step ∷ steps)).wrap (first_of (turns_in steps))) (played_by (step ∷ steps)).commands →
    StandsFor new.replica (played_by (step ∷ steps)).wrap (named script_names (played_by (step ∷ steps)).replica) →
    AreSentAs (played_by (step ∷ steps)).wrap new.sent (tellings_of (first_of (turns_in steps)) (played_by (step ∷ steps)).commands) →
    new.found ≡ found_since (turns_in (step ∷ steps)) → new.clock ≡ clock_of (turns_in (step ∷ steps)) → IsHeldAs new.reply (played_by (step ∷ steps)).reply →
    new.last ≡ last_of (turns_in (step ∷ steps)) → new.wrap ≡ (played_by (step ∷ steps)).wrap → IsAfter new (step ∷ steps)
turned was new step steps after none stands plain takes server replica sent found clock reply last wrap = record {
  may = record {
    stand = (stands, plain, takes, after.may.stand);
    number = subst (λ n. n ≤ 4294967295) (sym (first-more step.turn (turns_in steps) none)) after.may.number;
  };
  server = subst (λ n. ServerStandsFor new.server (script_start (played_by (step ∷ steps)).wrap n) (played_by (step ∷ steps)).commands) (sym (first-more step.turn (turns_in steps) none)) server;
  replica = replica;
  sent = subst (λ n. AreSentAs (played_by (step ∷ steps)).wrap new.sent (tellings_of n (played_by (step ∷ steps)).commands)) (sym (first-more step.turn (turns_in steps) none)) sent;
  found = found;
  clock = clock;
  reply = reply;
  last = last;
  wrap = wrap;
}

-- ---- how much a step can raise

-- one more subscription at most
pub scanned-granted : (answer : ScanAnswer) (records : List Record) (commands : List Command) → granted (scanned answer records commands) ≡ granted commands
scanned-granted Accepted records commands = refl
scanned-granted (BadRecord line) records commands = refl
scanned-granted (TooMany objects) records commands = refl
scanned-granted (NoNumbers needed) records commands = refl

pub ended-granted : (first now : ℕ) (commands : List Command) (o : Option ℕ) → granted (given_up o now commands) ≡ granted commands
ended-granted first now commands None = refl
ended-granted first now commands (Some name) = by (lives name now commands)
  where
    by : (b : Bool) → granted (cond b (Ends now name ∷ commands) commands) ≡ granted commands
    by true = refl
    by false = refl

pub renewed-granted : (first now : ℕ) (commands : List Command) (o : Option ℕ) → granted (with_renewal o now commands) ≡ granted commands
renewed-granted first now commands None = refl
renewed-granted first now commands (Some name) = by (lives name now commands)
  where
    by : (b : Bool) → granted (cond b (Renews now name granted_seconds ∷ commands) commands) ≡ granted commands
    by true = refl
    by false = refl

one-granted : (read : Option Shown) (first now : ℕ) (records : List Record) (p : Played) (turn : ScriptTurn) →
    granted (play_read read first now records p turn).commands ≤ granted p.commands + 1
one-granted read first now records p (Folder path) = omega arith
one-granted read first now records p (Track path info size) = omega arith
one-granted read first now records p (Tag comment) = omega arith
one-granted read first now records p Scan = let same = scanned-granted (scan_answer (scans_of first p.commands) records) records p.commands in omega (arith, same)
one-granted read first now records p Load = omega arith
one-granted read first now records p Read = omega arith
one-granted read first now records p Ask = omega arith
one-granted read first now records p (First number) = omega arith
one-granted read first now records p (Wrap number) = omega arith
one-granted read first now records p (At moment) = omega arith
one-granted read first now records p Subscribe = by (has_room now p.commands)
  where
    granting : Played
    granting = record p { commands = grant_at now ∷ p.commands; replica = Requests ∷ p.replica; reply = Named (granted p.commands + 1) }

    refusing : Played
    refusing = record p { replica = Requests ∷ p.replica; reply = Refusal }

    by : (b : Bool) → granted (cond b granting refusing).commands ≤ granted p.commands + 1
    by true = omega arith
    by false = omega arith
one-granted read first now records p Accept = omega arith
one-granted read first now records p Renew = let same = renewed-granted first now p.commands (accepted p.replica) in omega (arith, same)
one-granted read first now records p Unsubscribe = let same = ended-granted first now p.commands (accepted p.replica) in omega (arith, same)
one-granted read first now records p (Deliver note) = omega arith
one-granted read first now records p ReadFault = omega arith

-- one more thing found
last-length : (comment : Comment) (found : List Found) → length (last_commented comment found) ≡ length found
last-length comment [] = refl
last-length comment (found ∷ []) = refl
last-length comment (found ∷ next ∷ others) = ap suc (last-length comment (next ∷ others))

one-found : (turn : ScriptTurn) (older : List ScriptTurn) → length (found_since (turn ∷ older)) ≤ length (found_since older) + 1
one-found (Folder path) older = let e = length-append (found_since older) (Rattle.cds_script.specs.declared.found.Found.TheVariants.Folder path ∷ []) in omega (arith, e)
one-found (Track path info size) older =
    let e = length-append (found_since older) (Rattle.cds_script.specs.declared.found.Found.TheVariants.Track (record { path = path; info = info; size = size }) ∷ []) in
    omega (arith, e)
one-found (Tag comment) older = let e = last-length comment (found_since older) in omega (arith, e)
one-found Scan older = omega arith
one-found Load older = omega arith
one-found Read older = omega arith
one-found Ask older = omega arith
one-found (First n) older = omega arith
one-found (Wrap n) older = omega arith
one-found (At n) older = omega arith
one-found Subscribe older = omega arith
one-found Accept older = omega arith
one-found Renew older = omega arith
one-found Unsubscribe older = omega arith
one-found (Deliver n) older = omega arith
one-found ReadFault older = omega arith

-- and a moment of a script
moment-within : (turn : ScriptTurn) (older : List ScriptTurn) → IsInRange turn → clock_of older < moment_limit → clock_of (turn ∷ older) < moment_limit
moment-within (Folder path) older fits low = low
moment-within (Track path info size) older fits low = low
moment-within (Tag comment) older fits low = low
moment-within Scan older fits low = low
moment-within Load older fits low = low
moment-within Read older fits low = low
moment-within Ask older fits low = low
moment-within (First n) older fits low = low
moment-within (Wrap n) older fits low = low
moment-within (At n) older fits low = fits
moment-within Subscribe older fits low = low
moment-within Accept older fits low = low
moment-within Renew older fits low = low
moment-within Unsubscribe older fits low = low
moment-within (Deliver n) older fits low = low
moment-within ReadFault older fits low = low

pub granted-is : (playing : Playing) (steps : List ReplayStep) → IsAfter playing steps → playing.server.book.subscribed.granted ≡ granted (played_by steps).commands
granted-is playing steps after = ap (λ (s : Subscribed). s.granted) after.server.book.subscribed

pub grown : (was new : Playing) (step : ReplayStep) (steps : List ReplayStep) → IsAfter was steps → IsAfter new (step ∷ steps) → Grows was new
grown was new step steps old after = record {
  found =
      let a = ap length old.found in
      let b = ap length after.found in
      let c = one-found step.turn (turns_in steps) in
      omega (arith, a, b, c);
  granted =
      let a = granted-is was steps old in
      let b = granted-is new (step ∷ steps) after in
      let c = one-granted step.read (first_of (turns_in steps)) (clock_of (turns_in steps)) (records_since (turns_in steps)) (played_by steps) step.turn in
      omega (arith, a, b, c);
  moment = λ low.
      subst (λ n. n < moment_limit) (sym after.clock)
      (moment-within step.turn (turns_in steps) after.may.stand.1 (subst (λ n. n < moment_limit) old.clock low));
}
