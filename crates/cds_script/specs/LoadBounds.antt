-- How long a replica of a script may be behind its load. Fewer reads were answered than a load of the catalog takes, and two
-- more. They count from the latest of the load's beginning, a first note that dropped the copy, and the last scan with changes.
use Rattle.std.specs.Prelude.{◌≡◌, ◌+◌, ◌<◌, ◌⊎◌, ◌&&◌, ℕ, Bool, false, cond, not, nat_eq, List, [], ◌∷◌, ◌++◌, Option, Some, None, codes}
use Rattle.cds_object.specs.declared.record.Record.{Record}
use Rattle.cds_catalog.specs.History.{end_of}
use Rattle.cds_catalog.specs.Catalog.{catalog}
use Rattle.cds_catalog.specs.Scans.{scan_answer}
use Rattle.cds_load.specs.declared.exchange.Ask.{Ask as Asked}
use Rattle.cds_load.specs.Loads.{load_reads}
use Rattle.cds_commands.specs.Notes.{Note, notes_of}
use Rattle.cds_commands.specs.Commands.{scans_of}
use Rattle.cds_follow.specs.Inbox.{ReplicaTurn, Accepts, Delivers, taken_by}
use Rattle.cds_follow.specs.Follow.{position, is_drop, is_refused, known_by, next_ask, says}
use Rattle.cds_follow.specs.HonestLaws.{load_was_begun}
use Rattle.cds_follow.specs.declared.says.Says.TheVariants.{BehindLoad}
use Rattle.cds_script.specs.declared.reply.HeldReply.{HeldReply}
use Rattle.cds_script.specs.declared.reply.HeldReply.TheVariants.{Named}
use Rattle.cds_script.specs.declared.turn.ScriptTurn.{ScriptTurn}
use Rattle.cds_script.specs.declared.turn.ScriptTurn.TheVariants.{Scan, Load, Read, Ask, Accept, Deliver}
use Rattle.cds_script.specs.Report.{first_of, records_since, Played, scanned, reaching, sent_note, played, history_of, written_by}
use Rattle.cds_script.specs.Played.{MayBe}

-- one more read was answered, if something was asked
abbrev pub answered : Option Asked → ℕ → ℕ
answered None n = n
answered (Some ask) n = n + 1

-- whether a turn of the replica lets it take a first note above its position, so that a load begins
abbrev pub drops : ReplicaTurn → List ReplicaTurn → Bool
drops turn older = not (is_refused turn older) && is_drop (position (known_by older)) (taken_by turn older)

-- whether the reply that is held back does, and whether a note does
abbrev pub reply_drops : HeldReply → List ReplicaTurn → Bool
reply_drops (Named name) older = drops (Accepts name) older
reply_drops reply older = false

abbrev pub note_drops : Option Note → List ReplicaTurn → Bool
note_drops None older = false
note_drops (Some note) older = drops (Delivers note) older

-- how many reads were answered, after a turn. They are counted anew from a load's beginning, and from a scan with changes. They
-- are not from a scan whose end is the number before it
abbrev pub answered_after : ℕ → List Record → Played → ℕ → ScriptTurn → ℕ
answered_after first records p n Scan =
    cond (nat_eq (end_of (scans_of first (scanned (scan_answer (scans_of first p.commands) records) records p.commands))) (end_of (scans_of first p.commands))) n 0
answered_after first records p n Load = 0
answered_after first records p n Read = answered (next_ask (known_by p.replica)) n
answered_after first records p n Accept = cond (reply_drops p.reply p.replica) 0 n
answered_after first records p n (Deliver note) =
    cond (note_drops (reaching p.wrap p.replica (sent_note note (notes_of first p.commands))) p.replica) 0 n
answered_after first records p n turn = n

abbrev pub answered_since : List ScriptTurn → ℕ
answered_since [] = 0
answered_since (turn ∷ older) = answered_after (first_of older) (records_since older) (played older) (answered_since older) turn

-- if the replica is behind its load, none was begun or few reads were answered since: fewer than a load of the catalog takes, and
-- two more
abbrev pub loads_are_bounded : Type 0
loads_are_bounded = (turns : List ScriptTurn) → MayBe turns → says (played turns).replica ≡ BehindLoad →
    (load_was_begun (played turns).replica ≡ false) ⊎ (answered_since turns < load_reads (catalog (history_of turns)) + 2)

-- each ask among turns that writes `behind load` obeys this bound
abbrev pub BoundsLoads : List ScriptTurn → Type 0
BoundsLoads turns = (newer older : List ScriptTurn) → turns ≡ newer ++ Ask ∷ older → written_by older Ask ≡ codes "behind load\n" →
    (load_was_begun (played older).replica ≡ false) ⊎ (answered_since older < load_reads (catalog (history_of older)) + 2)

abbrev pub all_turns_bound_loads : Type 0
all_turns_bound_loads = (turns : List ScriptTurn) → MayBe turns → BoundsLoads turns
