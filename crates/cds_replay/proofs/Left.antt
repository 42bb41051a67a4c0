-- What asks write was left by the wire.
use Rattle.std.proofs.Common.{◌⊎◌, inl, inr, ℕ, ◌+◌, List, [], ◌∷◌, Bool, true, false, cond, Option, Some, None, ap}
use Rattle.std.specs.List.{AllByRecursion}
use Rattle.cds_object.specs.Object.{ObjectRow}
use Rattle.cds_object.specs.declared.record.Record.{Record}
use Rattle.cds_load.specs.Seen.{HasVersion, rows_shown}
use Rattle.cds_load.specs.declared.exchange.Ask.{Ask as Asked}
use Rattle.cds_load.specs.declared.exchange.Shown.{Shown}
use Rattle.cds_commands.specs.Notes.{Note, has_room, notes_of}
use Rattle.cds_commands.specs.Subscriptions.{granted}
use Rattle.cds_follow.specs.Inbox.{ReplicaTurn, Shows, Requests, Accepts, Delivers}
use Rattle.cds_follow.specs.Follow.{known_by, next_ask, copied, and_turn, is_refused}
use Rattle.cds_follow.specs.Seen.{WasShown}
use Rattle.cds_follow.specs.Wire.{says_by_seq}
use Rattle.cds_follow.proofs.Seen.{copies-shown}
use Rattle.cds_script.specs.Report.{Played, first_of, clock_of, records_since, after_reply, after_note, reaching, sent_note}
use Rattle.cds_script.specs.Script.{grant_at}
use Rattle.cds_script.specs.declared.reply.HeldReply.{HeldReply}
use Rattle.cds_script.specs.declared.reply.HeldReply.TheVariants.{NoReply, Named, Refusal}
use Rattle.cds_script.specs.declared.turn.ScriptTurn.{ScriptTurn}
use Rattle.cds_script.specs.declared.turn.ScriptTurn.TheVariants.{Folder, Track, Tag, Scan, Load, Read, Ask, First, Wrap, At, Subscribe, Accept, Renew, Unsubscribe, Deliver, ReadFault}
use Rattle.cds_replay.specs.Lines.{known_text}
use Rattle.cds_replay.specs.Wire.{rows_read, WasLeft, asks_write_what_was_left}
use Rattle.cds_replay.specs.Wired.{ReplayStep, turns_in, and_read, play_read, played_by}

-- what is so of each thing
all-weaker : {A : Type 0} (P Q : A → Type 0) (xs : List A) → ((x : A) → P x → Q x) → AllByRecursion P xs → AllByRecursion Q xs
all-weaker P Q [] from all = tt
all-weaker P Q (x ∷ xs) from all = (from x all.0, all-weaker P Q xs from all.1)

module _ (row : ObjectRow) where
  -- a turn that shows nothing
  and-none : (turn : ReplicaTurn) (turns : List ReplicaTurn) → (WasShown row (turn ∷ turns) → WasShown row turns) → WasShown row (and_turn turn turns) → WasShown row turns
  and-none turn turns less shown = by (is_refused turn turns) shown
    where
      by : (b : Bool) → WasShown row (cond b turns (turn ∷ turns)) → WasShown row turns
      by true s = s
      by false s = less s

  and-read : (o : Option Asked) (read : Option Shown) (turns : List ReplicaTurn) → WasShown row (and_read o read turns) → HasVersion row (rows_read read) ⊎ WasShown row turns
  and-read None read turns shown = inr shown
  and-read (Some ask) None turns shown = inr shown
  and-read (Some ask) (Some shows) turns shown = by (is_refused (Shows shows) turns) shown
    where
      by : (b : Bool) → WasShown row (cond b turns (Shows shows ∷ turns)) → HasVersion row (rows_shown shows) ⊎ WasShown row turns
      by true s = inr s
      by false s = s

  and-reply : (reply : HeldReply) (turns : List ReplicaTurn) → WasShown row (after_reply reply turns) → WasShown row turns
  and-reply NoReply turns shown = shown
  and-reply (Named name) turns shown = and-none (Accepts name) turns (λ s. s) shown
  and-reply Refusal turns shown = shown

  and-note : (o : Option Note) (turns : List ReplicaTurn) → WasShown row (after_note o turns) → WasShown row turns
  and-note None turns shown = shown
  and-note (Some note) turns shown = and-none (Delivers note) turns (λ s. s) shown

  one-left : (read : Option Shown) (first now : ℕ) (records : List Record) (p : Played) (turn : ScriptTurn) → WasShown row (play_read read first now records p turn).replica →
      HasVersion row (rows_read read) ⊎ WasShown row p.replica
  one-left read first now records p (Folder path) s = inr s
  one-left read first now records p (Track path info size) s = inr s
  one-left read first now records p (Tag comment) s = inr s
  one-left read first now records p Scan s = inr s
  one-left read first now records p Load s = inr s
  one-left read first now records p Read s = and-read (next_ask (known_by p.replica)) read p.replica s
  one-left read first now records p Ask s = inr s
  one-left read first now records p (First number) s = inr s
  one-left read first now records p (Wrap number) s = inr s
  one-left read first now records p (At moment) s = inr s
  one-left read first now records p Subscribe s = inr (by (has_room now p.commands) s)
    where
      granting : Played
      granting = record p { commands = grant_at now ∷ p.commands; replica = Requests ∷ p.replica; reply = Named (granted p.commands + 1) }

      refusing : Played
      refusing = record p { replica = Requests ∷ p.replica; reply = Refusal }

      by : (b : Bool) → WasShown row (cond b granting refusing).replica → WasShown row p.replica
      by true shown = shown
      by false shown = shown
  one-left read first now records p Accept s = inr (and-reply p.reply p.replica s)
  one-left read first now records p Renew s = inr s
  one-left read first now records p Unsubscribe s = inr s
  one-left read first now records p (Deliver note) s = inr (and-note (reaching p.wrap p.replica (sent_note note (notes_of first p.commands))) p.replica s)
  one-left read first now records p ReadFault s = inr s

  -- what was shown to the replica was left by the wire
  was-left : (steps : List ReplayStep) → WasShown row (played_by steps).replica → WasLeft row steps
  was-left [] shown = shown
  was-left (step ∷ older) shown =
      by (one-left step.read (first_of (turns_in older)) (clock_of (turns_in older)) (records_since (turns_in older)) (played_by older) step.turn shown) (was-left older)
    where
      by : HasVersion row (rows_read step.read) ⊎ WasShown row (played_by older).replica → (WasShown row (played_by older).replica → WasLeft row older) → WasLeft row (step ∷ older)
      by (inl has) before = inl has
      by (inr s) before = inr (before s)

pub asks-left : asks_write_what_was_left
asks-left steps newer older read number parts stands = record {
  rows = copied (known_by (played_by older).replica);
  text = ap (λ s. known_text (says_by_seq (played_by older).wrap s) (copied (known_by (played_by older).replica))) stands;
  left = all-weaker (λ row. WasShown row (played_by older).replica) (λ row. WasLeft row older) (copied (known_by (played_by older).replica))
      (λ row. was-left row older) (copies-shown (played_by older).replica);
}
