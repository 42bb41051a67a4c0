-- The replica of a script is one of an honest server, whose commands are those that the script's turns gave it. What follows for
-- the script's turns: nothing is unreadable, jumps or is torn, few subscriptions live, what stands is a scan end, and the answer
-- is complete.
use Rattle.std.specs.Prelude.{◌≡◌, ◌≤◌, ℕ, true, List, ◌∷◌, ◌++◌, length, Some, None, codes}
use Rattle.std.specs.List.{AllByRecursion}
use Rattle.std.specs.Fmt.{decimal}
use Rattle.cds_object.specs.Fragment.{full_text}
use Rattle.cds_object.specs.Object.{ObjectRow}
use Rattle.cds_catalog.specs.Library.{FolderMap}
use Rattle.cds_catalog.specs.History.{History, end_of}
use Rattle.cds_catalog.specs.Catalog.{catalog}
use Rattle.cds_load.specs.Server.{reply_to}
use Rattle.cds_load.specs.declared.exchange.Ask.{Ask as Asked}
use Rattle.cds_commands.specs.Notes.{Note, alive_names, notes_of}
use Rattle.cds_commands.specs.Subscriptions.{subscription_limit}
use Rattle.cds_commands.specs.Releases.{released_to, releases_of}
use Rattle.cds_follow.specs.Inbox.{Accepts, Delivers, accepted, received, has_place, taken_by}
use Rattle.cds_follow.specs.Follow.{Known, known_by, next_ask, with_reply, with_notes, says, copied}
use Rattle.cds_follow.specs.Given.{Entry, moment_after, given_by, latest_length, IsGiven}
use Rattle.cds_commands.specs.Commands.{AreAccepted}
use Rattle.cds_follow.specs.HonestLaws.{load_was_begun}
use Rattle.cds_follow.specs.declared.says.Says.TheVariants.{Stands}
use Rattle.cds_script.specs.declared.reply.HeldReply.TheVariants.{Named}
use Rattle.cds_script.specs.declared.turn.ScriptTurn.{ScriptTurn}
use Rattle.cds_script.specs.declared.turn.ScriptTurn.TheVariants.{Ask}
use Rattle.cds_script.specs.Report.{script_token, first_of, clock_of, sent_note, lives, played, history_of, written_by}
use Rattle.cds_script.specs.Played.{MayBe}
use Rattle.cds_load.specs.Outcome.{Goes}

-- a number is the end of some of a history's scans, the oldest ones, and rows are the catalog after these
pub record IsScanEnd (history : History) (number : ℕ) (rows : List ObjectRow) : Type 0 where
  pub newer : List FolderMap
  pub older : List FolderMap
  pub parts : history.maps ≡ newer ++ older
  pub ends : end_of (record { first = history.first; maps = older }) ≡ number
  pub are : rows ≡ catalog (record { first = history.first; maps = older })

-- the commands that turns gave the server are accepted ones. The replica's turns are what an honest server gives, each at a
-- length of the list of these commands
pub record AreGiven (turns : List ScriptTurn) : Type 0 where
  pub accepted : AreAccepted (first_of turns) (played turns).commands
  pub entries : List Entry
  pub given : IsGiven script_token (first_of turns) (played turns).commands entries
  pub are : (played turns).replica ≡ given_by script_token (first_of turns) (played turns).commands entries
  pub within : latest_length entries ≤ length (played turns).commands

abbrev pub scripts_are_given : Type 0
scripts_are_given = (turns : List ScriptTurn) → MayBe turns → AreGiven turns

-- what may come after turns is taken: the reply to the next read; the notes that came early for the name whose reply is held
-- back; and each note that was sent, with those that follow it. All can be read, jump over no change, and tell only what can be
pub record AreTaken (turns : List ScriptTurn) : Type 0 where
  pub reads : (ask : Asked) → next_ask (known_by (played turns).replica) ≡ Some ask →
      (now : Known) × (with_reply (known_by (played turns).replica) (known_by (played turns).replica).held
      (reply_to (moment_after script_token (first_of turns) (played turns).commands) ask) ≡ Goes now)
  pub names : (name : ℕ) → (played turns).reply ≡ Named name →
      (now : Known) × (with_notes (taken_by (Accepts name) (played turns).replica) (known_by (played turns).replica) ≡ Goes now)
  pub notes : (number : ℕ) (note : Note) → sent_note number (notes_of (first_of turns) (played turns).commands) ≡ Some note →
      (now : Known) × (with_notes (taken_by (Delivers note) (played turns).replica) (known_by (played turns).replica) ≡ Goes now)

abbrev pub nothing_is_refused : Type 0
nothing_is_refused = (turns : List ScriptTurn) → MayBe turns → AreTaken turns

-- the names of the subscriptions that live after turns, at their current moment
abbrev pub living_names : List ScriptTurn → List ℕ
living_names turns = alive_names (clock_of turns) (played turns).commands

-- at most 64 subscriptions live, after whichever turns
abbrev pub subscriptions_are_few : Type 0
subscriptions_are_few = (turns : List ScriptTurn) → MayBe turns → length (living_names turns) ≤ subscription_limit

-- each ask among turns that writes `stands` writes the number that the replica says, and the rows of its copy. The number is a
-- scan end of the scans that were accepted by then, and the rows are the catalog after the scans up to it
abbrev pub StandsAtScanEnds : List ScriptTurn → Type 0
StandsAtScanEnds turns = (newer older : List ScriptTurn) (rest : List ℕ) → turns ≡ newer ++ Ask ∷ older →
    written_by older Ask ≡ codes "stands " ++ rest →
    (number : ℕ) × (says (played older).replica ≡ Stands number)
    × IsScanEnd (history_of older) number (copied (known_by (played older).replica))
    × (written_by older Ask ≡ codes "stands " ++ decimal number ++ codes "\n" ++ full_text (copied (known_by (played older).replica)))

abbrev pub all_turns_stand_at_scan_ends : Type 0
all_turns_stand_at_scan_ends = (turns : List ScriptTurn) → MayBe turns → StandsAtScanEnds turns

-- a load was begun, and the subscription that was accepted last lives. Each note that was sent to it was received, no change
-- waits for its release, and nothing is to be read
pub record IsComplete (turns : List ScriptTurn) (name : ℕ) : Type 0 where
  pub begun : load_was_begun (played turns).replica ≡ true
  pub named : accepted (played turns).replica ≡ Some name
  pub alive : lives name (clock_of turns) (played turns).commands ≡ true
  pub all : AllByRecursion (λ (note : Note). note.name ≡ name → has_place (received (played turns).replica) note.place ≡ true)
      (notes_of (first_of turns) (played turns).commands)
  pub released : released_to (first_of turns) (releases_of (first_of turns) (played turns).commands) ≡ end_of (history_of turns)
  pub nothing : next_ask (known_by (played turns).replica) ≡ None

-- then the replica stands at the server's number, and an ask writes this and the catalog after all scans
abbrev pub answers_are_complete : Type 0
answers_are_complete = (turns : List ScriptTurn) (name : ℕ) → MayBe turns → IsComplete turns name →
    (says (played turns).replica ≡ Stands (end_of (history_of turns)))
    × (written_by turns Ask ≡ codes "stands " ++ decimal (end_of (history_of turns)) ++ codes "\n" ++ full_text (catalog (history_of turns)))
