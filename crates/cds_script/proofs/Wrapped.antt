-- The wrap of a script is at least 256; and a note that a turn delivers reaches the replica as it was sent, or is refused.
use Rattle.std.proofs.Common.{◌≡◌, ◌⊎◌, inl, inr, ℕ, ◌+◌, ◌≤◌, List, [], ◌∷◌, Bool, true, false, cond, refl, sym, ◌∙◌, arith, Option, Some, None}
use Rattle.std.specs.List.{list_all}
use Rattle.std.proofs.lemmas.Bool.{and_parts, leb-true}
use Rattle.cds_catalog.proofs.StepsFind.{none≢some}
use Rattle.cds_commands.specs.Notes.{Note, has_room, notes_of}
use Rattle.cds_commands.specs.Subscriptions.{granted}
use Rattle.cds_follow.specs.Inbox.{ReplicaTurn, Requests, Delivers, IsUnknown}
use Rattle.cds_follow.specs.Follow.{is_refused}
use Rattle.cds_commands.specs.Wire.{on_wire}
use Rattle.cds_follow.specs.Wire.{arrival_on_wire}
use Rattle.cds_follow.proofs.Wire.{placed-or-unknown}
use Rattle.cds_script.specs.declared.turn.ScriptTurn.{ScriptTurn}
use Rattle.cds_script.specs.declared.turn.ScriptTurn.TheVariants.{Folder, Track, Tag, Scan, Load, Read, Ask, First, Wrap, At, Subscribe, Accept, Renew, Unsubscribe, Deliver, ReadFault}
use Rattle.cds_script.specs.Report.{is_first, is_recent_one, reaching, sent_note, first_of, clock_of, Played, played, may_stand}
use Rattle.cds_script.specs.Played.{AllStand}
use Rattle.cds_script.specs.declared.reply.HeldReply.TheVariants.{Named, Refusal}
use Rattle.cds_script.specs.Script.{grant_at}

-- ---- the wrap

wrap-after : (older : List ScriptTurn) (turn : ScriptTurn) → may_stand older turn ≡ true → 256 ≤ (played older).wrap → 256 ≤ (played (turn ∷ older)).wrap
wrap-after older (Folder path) stands low = low
wrap-after older (Track path info size) stands low = low
wrap-after older (Tag comment) stands low = low
wrap-after older Scan stands low = low
wrap-after older Load stands low = low
wrap-after older Read stands low = low
wrap-after older Ask stands low = low
wrap-after older (First number) stands low = low
wrap-after older (Wrap number) stands low = leb-true 256 number (and_parts _ (list_all is_first older) stands).0
wrap-after older (At moment) stands low = low
wrap-after older Subscribe stands low = by (has_room (clock_of older) (played older).commands)
  where
    p : Played
    p = played older

    by : (b : Bool) → let after : Played = cond b
        (record p { commands = grant_at (clock_of older) ∷ p.commands; replica = Requests ∷ p.replica; reply = Named (granted p.commands + 1) })
        (record p { replica = Requests ∷ p.replica; reply = Refusal }) in 256 ≤ after.wrap
    by true = low
    by false = low
wrap-after older Accept stands low = low
wrap-after older Renew stands low = low
wrap-after older Unsubscribe stands low = low
wrap-after older (Deliver note) stands low = low
wrap-after older ReadFault stands low = low

pub wide : (turns : List ScriptTurn) → AllStand turns → 256 ≤ (played turns).wrap
wide [] all = omega arith
wide (turn ∷ older) all = wrap-after older turn all.0 (wide older all.1)

-- ---- a note that is delivered

pub reached : (wrap : ℕ) (turns : List ReplicaTurn) → 256 ≤ wrap → (o : Option Note) → is_recent_one wrap o turns ≡ true → (note : Note) → reaching wrap turns o ≡ Some note →
    (o ≡ Some note) ⊎ (is_refused (Delivers note) turns ≡ true)
reached wrap turns low None recent note e = none≢some None note refl e
reached wrap turns low (Some sent) recent note e = by (placed-or-unknown wrap sent turns low recent)
  where
    by : (reaching wrap turns (Some sent) ≡ Some sent)
        ⊎ ((arrival_on_wire wrap (on_wire wrap sent) turns ≡ IsUnknown) × ((other : Note) → reaching wrap turns (Some sent) ≡ Some other → is_refused (Delivers other) turns ≡ true)) →
        (Some sent ≡ Some note) ⊎ (is_refused (Delivers note) turns ≡ true)
    by (inl own) = inl (sym own ∙ e)
    by (inr away) = inr (away.1 note e)

-- what reaches the replica by a turn is the note that was sent, or is refused
abbrev pub Reaches : ℕ → Played → ScriptTurn → Type 0
Reaches first p (Deliver number) = (note : Note) → reaching p.wrap p.replica (sent_note number (notes_of first p.commands)) ≡ Some note →
    (sent_note number (notes_of first p.commands) ≡ Some note) ⊎ (is_refused (Delivers note) p.replica ≡ true)
Reaches first p turn = Unit {0}

turn-reaches : (older : List ScriptTurn) (turn : ScriptTurn) → 256 ≤ (played older).wrap → may_stand older turn ≡ true → Reaches (first_of older) (played older) turn
turn-reaches older (Folder path) low stands = tt
turn-reaches older (Track path info size) low stands = tt
turn-reaches older (Tag comment) low stands = tt
turn-reaches older Scan low stands = tt
turn-reaches older Load low stands = tt
turn-reaches older Read low stands = tt
turn-reaches older Ask low stands = tt
turn-reaches older (First number) low stands = tt
turn-reaches older (Wrap number) low stands = tt
turn-reaches older (At moment) low stands = tt
turn-reaches older Subscribe low stands = tt
turn-reaches older Accept low stands = tt
turn-reaches older Renew low stands = tt
turn-reaches older Unsubscribe low stands = tt
turn-reaches older (Deliver number) low stands = λ note e.
    reached (played older).wrap (played older).replica low (sent_note number (notes_of (first_of older) (played older).commands)) (and_parts _ _ stands).1 note e
turn-reaches older ReadFault low stands = tt

pub next-reaches : (turn : ScriptTurn) (older : List ScriptTurn) → AllStand (turn ∷ older) → Reaches (first_of older) (played older) turn
next-reaches turn older all = turn-reaches older turn (wide older all.1) all.0
