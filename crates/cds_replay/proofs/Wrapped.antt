-- The wrap of a script is from 256 to the greatest SEQ, whatever was read.
use Rattle.std.proofs.Common.{◌≡◌, ℕ, ◌+◌, ◌≤◌, List, [], ◌∷◌, Bool, true, false, cond, arith, Option}
use Rattle.std.specs.List.{list_all}
use Rattle.std.proofs.lemmas.Bool.{and_parts, leb-true}
use Rattle.cds_load.specs.declared.exchange.Shown.{Shown}
use Rattle.cds_commands.specs.Notes.{has_room}
use Rattle.cds_commands.specs.Subscriptions.{granted}
use Rattle.cds_follow.specs.Inbox.{Requests}
use Rattle.cds_script.specs.Report.{Played, is_first, first_of, clock_of, records_since}
use Rattle.cds_script.specs.Script.{IsInRange, grant_at}
use Rattle.cds_script.specs.declared.reply.HeldReply.TheVariants.{Named, Refusal}
use Rattle.cds_script.specs.declared.turn.ScriptTurn.{ScriptTurn}
use Rattle.cds_script.specs.declared.turn.ScriptTurn.TheVariants.{Folder, Track, Tag, Scan, Load, Read, Ask, First, Wrap, At, Subscribe, Accept, Renew, Unsubscribe, Deliver, ReadFault}
use Rattle.cds_replay.specs.Wired.{ReplayStep, turns_in, play_read, played_by, may_stand_by, AllStandBy}

abbrev pub IsWrap : ℕ → Type 0
IsWrap wrap = (256 ≤ wrap) × (wrap ≤ 4294967295)

one-wrap : (read : Option Shown) (older : List ReplayStep) (turn : ScriptTurn) → may_stand_by older turn ≡ true → IsInRange turn → IsWrap (played_by older).wrap →
    IsWrap (play_read read (first_of (turns_in older)) (clock_of (turns_in older)) (records_since (turns_in older)) (played_by older) turn).wrap
one-wrap read older (Folder path) stands fits is = is
one-wrap read older (Track path info size) stands fits is = is
one-wrap read older (Tag comment) stands fits is = is
one-wrap read older Scan stands fits is = is
one-wrap read older Load stands fits is = is
one-wrap read older Read stands fits is = is
one-wrap read older Ask stands fits is = is
one-wrap read older (First number) stands fits is = is
one-wrap read older (Wrap number) stands fits is = (leb-true 256 number (and_parts _ (list_all is_first (turns_in older)) stands).0, fits)
one-wrap read older (At moment) stands fits is = is
one-wrap read older Subscribe stands fits is = by (has_room (clock_of (turns_in older)) p.commands)
  where
    p : Played
    p = played_by older

    granting : Played
    granting = record p { commands = grant_at (clock_of (turns_in older)) ∷ p.commands; replica = Requests ∷ p.replica; reply = Named (granted p.commands + 1) }

    refusing : Played
    refusing = record p { replica = Requests ∷ p.replica; reply = Refusal }

    by : (b : Bool) → IsWrap (cond b granting refusing).wrap
    by true = is
    by false = is
one-wrap read older Accept stands fits is = is
one-wrap read older Renew stands fits is = is
one-wrap read older Unsubscribe stands fits is = is
one-wrap read older (Deliver note) stands fits is = is
one-wrap read older ReadFault stands fits is = is

pub steps-wrap : (steps : List ReplayStep) → AllStandBy steps → IsWrap (played_by steps).wrap
steps-wrap [] stand = (omega arith, omega arith)
steps-wrap (step ∷ older) stand = one-wrap step.read older step.turn stand.0 stand.1 (steps-wrap older stand.3)
