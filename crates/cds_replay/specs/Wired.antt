-- What turns lead to by what the replies to their reads were read as, whatever that is. The replica takes or refuses this, and
-- all else is played as in every script (this project's profile).
use Rattle.std.specs.Prelude.{◌≡◌, ◌≤◌, ℕ, Bool, true, false, nat_lt, nat_le, ◌&&◌, List, [], ◌∷◌, length, Option, Some, None, codes}
use Rattle.cds_object.specs.declared.record.Record.{Record}
use Rattle.cds_load.specs.Server.{Moment}
use Rattle.cds_load.specs.declared.exchange.Ask.{Ask as Asked}
use Rattle.cds_load.specs.declared.exchange.Shown.{Shown}
use Rattle.cds_commands.specs.Notes.{Note, notes_of}
use Rattle.cds_commands.specs.Places.{last_seq}
use Rattle.cds_commands.specs.Wire.{on_wire}
use Rattle.cds_follow.specs.Inbox.{ReplicaTurn, Shows, Accepts, Arrival, IsUnknown, IsRepeat, IsTooMany, IsEarly, IsHeld, IsNext}
use Rattle.cds_follow.specs.Follow.{Known, known_by, next_ask, copied, is_refused}
use Rattle.cds_follow.specs.Wire.{placed, heard, says_on_wire, arrival_on_wire}
use Rattle.cds_follow.specs.Given.{moment_after}
use Rattle.cds_replica.specs.Replies.{and_shown}
use Rattle.cds_script.specs.Report.{Played, script_token, first_of, clock_of, records_since, is_recent_one, sent_note, play, reply_text, written, may_stand}
use Rattle.cds_script.specs.declared.reply.HeldReply.{HeldReply}
use Rattle.cds_script.specs.declared.reply.HeldReply.TheVariants.{NoReply, Named, Refusal}
use Rattle.cds_script.specs.declared.turn.ScriptTurn.{ScriptTurn}
use Rattle.cds_script.specs.declared.turn.ScriptTurn.TheVariants.{Read, Ask, Accept, Deliver}
use Rattle.cds_script.specs.Script.{IsInRange}
use Rattle.cds_replay.specs.Lines.{known_text}
use Rattle.cds_load.specs.Outcome.{Outcome, is_no}

-- a turn, and what the reply to it was read as: it may be nothing, and only a read that asks for something has a reply
pub record ReplayStep : Type 0 where
  pub turn : ScriptTurn
  pub read : Option Shown

-- the turns of steps; of both the newest is the first
abbrev pub turns_in : List ReplayStep → List ScriptTurn
turns_in [] = []
turns_in (step ∷ older) = step.turn ∷ turns_in older

-- ---- what steps lead to

-- the replica's turns after a read. What is unreadable or refused is no turn. If nothing is asked, there is no reply
abbrev pub and_read : Option Asked → Option Shown → List ReplicaTurn → List ReplicaTurn
and_read None read turns = turns
and_read (Some ask) read turns = and_shown read turns

abbrev pub play_read : Option Shown → ℕ → ℕ → List Record → Played → ScriptTurn → Played
play_read read first now records p Read = record p { replica = and_read (next_ask (known_by p.replica)) read p.replica }
play_read read first now records p turn = play first now records p turn

abbrev pub played_by : List ReplayStep → Played
played_by [] = record { commands = []; replica = []; reply = NoReply; wrap = last_seq }
played_by (step ∷ older) =
    play_read step.read (first_of (turns_in older)) (clock_of (turns_in older)) (records_since (turns_in older)) (played_by older) step.turn

-- what the server has after steps
abbrev pub moment_by : List ReplayStep → Moment
moment_by steps = moment_after script_token (first_of (turns_in steps)) (played_by steps).commands

-- whether a turn may stand after the older ones: a note that is delivered was sent, and is recent
abbrev pub may_stand_by : List ReplayStep → ScriptTurn → Bool
may_stand_by older (Deliver note) =
    (nat_lt 0 note && nat_le note (length (notes_of (first_of (turns_in older)) (played_by older).commands)))
    && is_recent_one (played_by older).wrap (sent_note note (notes_of (first_of (turns_in older)) (played_by older).commands)) (played_by older).replica
may_stand_by older turn = may_stand (turns_in older) turn

-- ---- what the replica refuses

-- what was read of a reply to its ask: nothing, or what it does not take
abbrev pub refuses_read : Option Asked → Option Shown → List ReplicaTurn → Bool
refuses_read None read turns = false
refuses_read (Some ask) None turns = true
refuses_read (Some ask) (Some shown) turns = is_refused (Shows shown) turns

-- the name in the reply to its subscribe request, if the notes that came early for it tell what cannot be
abbrev pub refuses_reply : HeldReply → List ReplicaTurn → Bool
refuses_reply NoReply turns = false
refuses_reply (Named name) turns = is_refused (Accepts name) turns
refuses_reply Refusal turns = false

-- a note that is the next one, if it or those that follow it tell what cannot be. To a note of another name, and to one too many,
-- the replica has its answers
abbrev pub refuses_arrival : Arrival → Outcome Known → Bool
refuses_arrival IsUnknown outcome = false
refuses_arrival IsRepeat outcome = false
refuses_arrival (IsTooMany held) outcome = false
refuses_arrival IsEarly outcome = false
refuses_arrival (IsHeld missing) outcome = false
refuses_arrival IsNext outcome = is_no outcome

abbrev pub refuses_note : ℕ → Option Note → List ReplicaTurn → Bool
refuses_note wrap None turns = false
refuses_note wrap (Some note) turns =
    refuses_arrival (arrival_on_wire wrap (on_wire wrap note) turns) (heard (placed wrap (on_wire wrap note) turns) turns)

-- what a turn gives it, after the older ones
abbrev pub refuses_turn : Option Shown → ℕ → Played → ScriptTurn → Bool
refuses_turn read first p Read = refuses_read (next_ask (known_by p.replica)) read p.replica
refuses_turn read first p Accept = refuses_reply p.reply p.replica
refuses_turn read first p (Deliver note) = refuses_note p.wrap (sent_note note (notes_of first p.commands)) p.replica
refuses_turn read first p turn = false

abbrev pub refuses : List ReplayStep → ReplayStep → Bool
refuses older step = refuses_turn step.read (first_of (turns_in older)) (played_by older) step.turn

-- ---- what steps write

-- a read: what was read, if it is taken
abbrev pub read_text_by : Option Asked → Option Shown → List ℕ
read_text_by None read = codes "read none\n"
read_text_by (Some ask) None = []
read_text_by (Some ask) (Some shown) = reply_text shown

-- an ask writes what the replica says, and the rows of its copy if it stands
abbrev pub written_read : Option Shown → ℕ → ℕ → List Record → Played → ScriptTurn → List ℕ
written_read read first now records p Read = read_text_by (next_ask (known_by p.replica)) read
written_read read first now records p Ask = known_text (says_on_wire p.wrap p.replica) (copied (known_by p.replica))
written_read read first now records p turn = written first now records p turn

abbrev pub written_on : List ReplayStep → ReplayStep → List ℕ
written_on older step =
    written_read step.read (first_of (turns_in older)) (clock_of (turns_in older)) (records_since (turns_in older)) (played_by older) step.turn

-- ---- steps that may be a script's

-- the numbers of each turn are in their ranges; it may stand after the older ones; nothing was refused; and the first number is
-- one of the server's
abbrev pub AllStandBy : List ReplayStep → Type 0
AllStandBy [] = Unit {0}
AllStandBy (step ∷ older) = (may_stand_by older step.turn ≡ true) × IsInRange step.turn × (refuses older step ≡ false) × AllStandBy older

pub record MayBeBy (steps : List ReplayStep) : Type 0 where
  pub stand : AllStandBy steps
  pub number : first_of (turns_in steps) ≤ 4294967295
