-- Where a reply is held back, a request is out, and the name that was accepted was granted, whatever was read.
use Rattle.std.proofs.Common.{◌≡◌, ℕ, ◌+◌, List, [], ◌∷◌, Bool, true, false, cond, Option, Some, None, refl, ◌∙◌}
use Rattle.cds_object.specs.declared.record.Record.{Record}
use Rattle.cds_load.specs.declared.exchange.Ask.{Ask as Asked}
use Rattle.cds_load.specs.declared.exchange.Shown.{Shown}
use Rattle.cds_commands.specs.Notes.{Note, has_room, notes_of}
use Rattle.cds_commands.specs.Subscriptions.{granted}
use Rattle.cds_follow.specs.Inbox.{ReplicaTurn, Begins, Shows, Requests, Delivers, is_out}
use Rattle.cds_follow.specs.Follow.{known_by, next_ask}
use Rattle.cds_script.specs.Report.{Played, first_of, clock_of, records_since, after_note, reaching, sent_note}
use Rattle.cds_script.specs.Script.{grant_at}
use Rattle.cds_script.specs.declared.reply.HeldReply.{HeldReply}
use Rattle.cds_script.specs.declared.reply.HeldReply.TheVariants.{NoReply, Named, Refusal}
use Rattle.cds_script.specs.declared.turn.ScriptTurn.{ScriptTurn}
use Rattle.cds_script.specs.declared.turn.ScriptTurn.TheVariants.{Folder, Track, Tag, Scan, Load, Read, Ask, First, Wrap, At, Subscribe, Accept, Renew, Unsubscribe, Deliver, ReadFault}
use Rattle.cds_script.proofs.Given.{out-and}
use Rattle.cds_replay.specs.Session.{IsHeldAs}
use Rattle.cds_replay.specs.Wired.{ReplayStep, turns_in, and_read, play_read, played_by}

-- a request is out while a reply is held back
abbrev Waits : HeldReply → List ReplicaTurn → Type 0
Waits NoReply turns = Unit {0}
Waits (Named name) turns = is_out turns ≡ true
Waits Refusal turns = is_out turns ≡ true

-- what leaves the request leaves that
waits-on : (reply : HeldReply) (old new : List ReplicaTurn) → is_out new ≡ is_out old → Waits reply old → Waits reply new
waits-on NoReply old new same w = tt
waits-on (Named name) old new same w = same ∙ w
waits-on Refusal old new same w = same ∙ w

out-read : (o : Option Asked) (read : Option Shown) (turns : List ReplicaTurn) → is_out (and_read o read turns) ≡ is_out turns
out-read None read turns = refl
out-read (Some ask) None turns = refl
out-read (Some ask) (Some shown) turns = out-and (Shows shown) turns refl

out-note : (o : Option Note) (turns : List ReplicaTurn) → is_out (after_note o turns) ≡ is_out turns
out-note None turns = refl
out-note (Some note) turns = out-and (Delivers note) turns refl

one-waits : (read : Option Shown) (first now : ℕ) (records : List Record) (p : Played) (turn : ScriptTurn) → Waits p.reply p.replica →
    Waits (play_read read first now records p turn).reply (play_read read first now records p turn).replica
one-waits read first now records p (Folder path) w = w
one-waits read first now records p (Track path info size) w = w
one-waits read first now records p (Tag comment) w = w
one-waits read first now records p Scan w = w
one-waits read first now records p Load w = waits-on p.reply p.replica (Begins ∷ p.replica) refl w
one-waits read first now records p Read w =
    waits-on p.reply p.replica (and_read (next_ask (known_by p.replica)) read p.replica) (out-read (next_ask (known_by p.replica)) read p.replica) w
one-waits read first now records p Ask w = w
one-waits read first now records p (First number) w = w
one-waits read first now records p (Wrap number) w = w
one-waits read first now records p (At moment) w = w
one-waits read first now records p Subscribe w = by (has_room now p.commands)
  where
    granting : Played
    granting = record p { commands = grant_at now ∷ p.commands; replica = Requests ∷ p.replica; reply = Named (granted p.commands + 1) }

    refusing : Played
    refusing = record p { replica = Requests ∷ p.replica; reply = Refusal }

    by : (b : Bool) → Waits (cond b granting refusing).reply (cond b granting refusing).replica
    by true = refl
    by false = refl
one-waits read first now records p Accept w = tt
one-waits read first now records p Renew w = w
one-waits read first now records p Unsubscribe w = w
one-waits read first now records p (Deliver note) w =
    waits-on p.reply p.replica (after_note (reaching p.wrap p.replica (sent_note note (notes_of first p.commands))) p.replica)
    (out-note (reaching p.wrap p.replica (sent_note note (notes_of first p.commands))) p.replica) w
one-waits read first now records p ReadFault w = w

all-waits : (steps : List ReplayStep) → Waits (played_by steps).reply (played_by steps).replica
all-waits [] = tt
all-waits (step ∷ older) =
    one-waits step.read (first_of (turns_in older)) (clock_of (turns_in older)) (records_since (turns_in older)) (played_by older) step.turn (all-waits older)

-- whatever reply is held back
abbrev IsReply : HeldReply → Type 0
IsReply NoReply = ⊥
IsReply (Named name) = Unit {0}
IsReply Refusal = Unit {0}

waits-so : (reply : HeldReply) (turns : List ReplicaTurn) → IsReply reply → Waits reply turns → is_out turns ≡ true
waits-so NoReply turns some w = absurd some
waits-so (Named name) turns some w = w
waits-so Refusal turns some w = w

held-some : (bytes : List ℕ) (reply : HeldReply) → IsHeldAs (Some bytes) reply → IsReply reply
held-some bytes NoReply is = is
held-some bytes (Named name) is = tt
held-some bytes Refusal is = tt

pub reply-waits : (steps : List ReplayStep) (bytes : List ℕ) → IsHeldAs (Some bytes) (played_by steps).reply → is_out (played_by steps).replica ≡ true
reply-waits steps bytes is = waits-so (played_by steps).reply (played_by steps).replica (held-some bytes (played_by steps).reply is) (all-waits steps)
