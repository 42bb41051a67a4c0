-- The name that a replica accepted, and the one that is held back, are those of grants, whatever was read.
use Rattle.std.proofs.Common.{◌≡◌, ℕ, ◌+◌, ◌≤◌, ◌<◌, ◌^◌, Bool, true, false, cond, List, [], ◌∷◌, Option, Some, None, sym, subst, arith}
use Rattle.cds_object.specs.declared.record.Record.{Record}
use Rattle.cds_load.specs.declared.exchange.Ask.{Ask as Asked}
use Rattle.cds_load.specs.declared.exchange.Shown.{Shown}
use Rattle.cds_catalog.specs.Scans.{scan_answer}
use Rattle.cds_commands.specs.Commands.{scans_of}
use Rattle.cds_commands.specs.Names.{names_of}
use Rattle.cds_commands.specs.Notes.{Note, has_room, notes_of}
use Rattle.cds_commands.specs.Subscriptions.{granted}
use Rattle.cds_follow.specs.Inbox.{ReplicaTurn, Shows, Requests, Accepts, Delivers, accepted}
use Rattle.cds_follow.specs.Follow.{known_by, next_ask, and_turn, is_refused}
use Rattle.cds_script.specs.Report.{Played, first_of, clock_of, records_since, after_reply, after_note, reaching, sent_note}
use Rattle.cds_script.specs.Script.{grant_at}
use Rattle.cds_script.specs.declared.reply.HeldReply.{HeldReply}
use Rattle.cds_script.specs.declared.reply.HeldReply.TheVariants.{NoReply, Named, Refusal}
use Rattle.cds_script.specs.declared.turn.ScriptTurn.{ScriptTurn}
use Rattle.cds_script.specs.declared.turn.ScriptTurn.TheVariants.{Folder, Track, Tag, Scan, Load, Read, Ask, First, Wrap, At, Subscribe, Accept, Renew, Unsubscribe, Deliver, ReadFault}
use Rattle.cds_commands.specs.Places.{last_seq}
use Rattle.cds_replay.specs.Session.{script_start, script_names}
use Rattle.cds_replay.specs.Wired.{ReplayStep, turns_in, and_read, play_read, played_by}
use Rattle.cds_replay.proofs.Turned.{scanned-granted, ended-granted, renewed-granted}

abbrev LowName : Option ℕ → ℕ → Type 0
LowName None most = Unit {0}
LowName (Some name) most = name ≤ most

abbrev LowReply : HeldReply → ℕ → Type 0
LowReply NoReply most = Unit {0}
LowReply (Named name) most = name ≤ most
LowReply Refusal most = Unit {0}

abbrev AreLow : Played → Type 0
AreLow p = LowName (accepted p.replica) (granted p.commands) × LowReply p.reply (granted p.commands)

name-more : (o : Option ℕ) (most : ℕ) → LowName o most → LowName o (most + 1)
name-more None most low = tt
name-more (Some name) most low = omega (arith, low)

-- what names nothing leaves the accepted name
and-same : (turn : ReplicaTurn) (turns : List ReplicaTurn) (most : ℕ) → (LowName (accepted turns) most → LowName (accepted (turn ∷ turns)) most) → LowName (accepted turns) most →
    LowName (accepted (and_turn turn turns)) most
and-same turn turns most on low = by (is_refused turn turns)
  where
    by : (b : Bool) → LowName (accepted (cond b turns (turn ∷ turns))) most
    by true = low
    by false = on low

read-low : (o : Option Asked) (read : Option Shown) (turns : List ReplicaTurn) (most : ℕ) → LowName (accepted turns) most → LowName (accepted (and_read o read turns)) most
read-low None read turns most low = low
read-low (Some ask) None turns most low = low
read-low (Some ask) (Some shown) turns most low = and-same (Shows shown) turns most (λ l. l) low

reply-low : (reply : HeldReply) (turns : List ReplicaTurn) (most : ℕ) → LowName (accepted turns) most → LowReply reply most → LowName (accepted (after_reply reply turns)) most
reply-low NoReply turns most low held = low
reply-low (Named name) turns most low held = and-same (Accepts name) turns most (λ l. held) low
reply-low Refusal turns most low held = low

note-low : (o : Option Note) (turns : List ReplicaTurn) (most : ℕ) → LowName (accepted turns) most → LowName (accepted (after_note o turns)) most
note-low None turns most low = low
note-low (Some note) turns most low = and-same (Delivers note) turns most (λ l. l) low

low-with : (replica : List ReplicaTurn) (reply : HeldReply) (most other : ℕ) → other ≡ most → LowName (accepted replica) most × LowReply reply most →
    LowName (accepted replica) other × LowReply reply other
low-with replica reply most other same low = subst (λ n. LowName (accepted replica) n × LowReply reply n) (sym same) low

one-low : (read : Option Shown) (first now : ℕ) (records : List Record) (p : Played) (turn : ScriptTurn) → AreLow p → AreLow (play_read read first now records p turn)
one-low read first now records p (Folder path) low = low
one-low read first now records p (Track path info size) low = low
one-low read first now records p (Tag comment) low = low
one-low read first now records p Scan low =
    low-with p.replica p.reply (granted p.commands) _ (scanned-granted (scan_answer (scans_of first p.commands) records) records p.commands) low
one-low read first now records p Load low = low
one-low read first now records p Read low = (read-low (next_ask (known_by p.replica)) read p.replica (granted p.commands) low.0, low.1)
one-low read first now records p Ask low = low
one-low read first now records p (First number) low = low
one-low read first now records p (Wrap number) low = low
one-low read first now records p (At moment) low = low
one-low read first now records p Subscribe low = by (has_room now p.commands)
  where
    granting : Played
    granting = record p { commands = grant_at now ∷ p.commands; replica = Requests ∷ p.replica; reply = Named (granted p.commands + 1) }

    refusing : Played
    refusing = record p { replica = Requests ∷ p.replica; reply = Refusal }

    by : (b : Bool) → AreLow (cond b granting refusing)
    by true = (name-more (accepted p.replica) (granted p.commands) low.0, omega arith)
    by false = (low.0, tt)
one-low read first now records p Accept low = (reply-low p.reply p.replica (granted p.commands) low.0 low.1, tt)
one-low read first now records p Renew low = low-with p.replica p.reply (granted p.commands) _ (renewed-granted first now p.commands (accepted p.replica)) low
one-low read first now records p Unsubscribe low = low-with p.replica p.reply (granted p.commands) _ (ended-granted first now p.commands (accepted p.replica)) low
one-low read first now records p (Deliver note) low = (note-low (reaching p.wrap p.replica (sent_note note (notes_of first p.commands))) p.replica (granted p.commands) low.0, low.1)
one-low read first now records p ReadFault low = low

all-low : (steps : List ReplayStep) → AreLow (played_by steps)
all-low [] = (tt, tt)
all-low (step ∷ older) =
    one-low step.read (first_of (turns_in older)) (clock_of (turns_in older)) (records_since (turns_in older)) (played_by older) step.turn (all-low older)

short-name : (names name : ℕ) → names + 2 ^ 32 ≤ 2 ^ 128 → name < 2 ^ 32 → names + name < 2 ^ 128
short-name names name room few = omega (arith, room, few)

-- so its name on the wire has 128 bits
pub accepted-short : (steps : List ReplayStep) (name : ℕ) → accepted (played_by steps).replica ≡ Some name → granted (played_by steps).commands < 2 ^ 32 → script_names name < 2 ^ 128
accepted-short steps name is few =
    let low : name ≤ granted (played_by steps).commands = subst (λ o. LowName o (granted (played_by steps).commands)) is (all-low steps).0 in
    short-name (names_of (script_start last_seq 0)) name (omega arith) (omega (arith, low, few))
