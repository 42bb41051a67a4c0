-- When the answer is complete, in the words of a script. A load was begun, and the subscription that was accepted last lives.
-- Every note that was sent to it was delivered, and no change waits for its release. A read found nothing to be read.
use Rattle.std.specs.Prelude.{◌≡◌, ℕ, Bool, true, false, List, ◌∷◌, ◌++◌, Some, None, codes}
use Rattle.std.specs.List.{AllByRecursion, list_all}
use Rattle.std.specs.Fmt.{decimal}
use Rattle.cds_object.specs.Fragment.{full_text}
use Rattle.cds_catalog.specs.History.{end_of}
use Rattle.cds_catalog.specs.Catalog.{catalog}
use Rattle.cds_commands.specs.Notes.{Note, notes_of}
use Rattle.cds_commands.specs.Releases.{released_to, releases_of}
use Rattle.cds_follow.specs.Inbox.{Arrival, IsUnknown, IsTooMany, accepted, received, has_place}
use Rattle.cds_follow.specs.Follow.{known_by, next_ask}
use Rattle.cds_follow.specs.HonestLaws.{load_was_begun}
use Rattle.cds_commands.specs.Wire.{on_wire}
use Rattle.cds_follow.specs.Wire.{arrival_on_wire}
use Rattle.cds_script.specs.declared.turn.ScriptTurn.{ScriptTurn}
use Rattle.cds_script.specs.declared.turn.ScriptTurn.TheVariants.{Load, Read, Ask, Accept, Deliver}
use Rattle.cds_script.specs.Report.{first_of, clock_of, sent_note, lives, played, history_of, written_by}
use Rattle.cds_script.specs.Played.{script_turns, MayBe}
use Rattle.cds_script.specs.Examples.{times}

-- whether a delivery is answered `full` or `unknown`
abbrev pub is_lost : Arrival → Bool
is_lost IsUnknown = true
is_lost (IsTooMany held) = true
is_lost arrival = false

-- each note that was sent to a name was delivered, at least once so that the answer was neither `full` nor `unknown`
abbrev pub WereDelivered : List ScriptTurn → ℕ → Type 0
WereDelivered turns name = (number : ℕ) (note : Note) →
    sent_note number (notes_of (first_of turns) (played turns).commands) ≡ Some note → note.name ≡ name →
    (newer : List ScriptTurn) × (older : List ScriptTurn) × (turns ≡ newer ++ Deliver number ∷ older)
    × (is_lost (arrival_on_wire (played older).wrap (on_wire (played older).wrap note) (played older).replica) ≡ false)

-- what was sent to the name that was accepted last and was delivered is received
abbrev pub delivered_notes_are_received : Type 0
delivered_notes_are_received = (turns : List ScriptTurn) (name : ℕ) → MayBe turns → accepted (played turns).replica ≡ Some name → WereDelivered turns name →
    AllByRecursion (λ (note : Note). note.name ≡ name → has_place (received (played turns).replica) note.place ≡ true)
    (notes_of (first_of turns) (played turns).commands)

-- whether nothing stays to be read after a turn, if nothing was before it: the turn begins no load, and takes no note
abbrev pub is_quiet : ScriptTurn → Bool
is_quiet Load = false
is_quiet Accept = false
is_quiet (Deliver note) = false
is_quiet turn = true

-- after a read that wrote `read none` nothing is to be read until a load is begun, a reply is accepted or a note is delivered
abbrev pub nothing_is_to_be_read : Type 0
nothing_is_to_be_read = (newer older : List ScriptTurn) → written_by older Read ≡ codes "read none\n" → list_all is_quiet newer ≡ true →
    next_ask (known_by (played (newer ++ Read ∷ older)).replica) ≡ None

-- the premises, of the turns before an ask
pub record IsDelivered (turns : List ScriptTurn) (name : ℕ) : Type 0 where
  pub begun : load_was_begun (played turns).replica ≡ true
  pub named : accepted (played turns).replica ≡ Some name
  pub alive : lives name (clock_of turns) (played turns).commands ≡ true
  pub delivered : WereDelivered turns name
  pub released : released_to (first_of turns) (releases_of (first_of turns) (played turns).commands) ≡ end_of (history_of turns)
  pub newer : List ScriptTurn
  pub older : List ScriptTurn
  pub parts : turns ≡ newer ++ Read ∷ older
  pub nothing : written_by older Read ≡ codes "read none\n"
  pub quiet : list_all is_quiet newer ≡ true

-- then the ask writes the server's number and the catalog after all scans
abbrev pub AnswersAreComplete : List ScriptTurn → Type 0
AnswersAreComplete turns = (newer older : List ScriptTurn) (name : ℕ) → turns ≡ newer ++ Ask ∷ older → IsDelivered older name →
    written_by older Ask ≡ codes "stands " ++ decimal (end_of (history_of older)) ++ codes "\n" ++ full_text (catalog (history_of older))

abbrev pub all_answers_are_complete : Type 0
all_answers_are_complete = (turns : List ScriptTurn) → MayBe turns → AnswersAreComplete turns

-- these premises are met: by the turns of a script that follows one note and reads until nothing is to be read
abbrev pub followed_script : List ℕ
followed_script =
    codes "load\n" ++ times 6 (codes "read\n") ++ codes "subscribe\naccept\ndeliver 1\ntrack a.flac 10 0 2 16 0\nscan\nat 200\ndeliver 2\nread\nread\n"

abbrev pub scripts_can_be_complete : Type 0
scripts_can_be_complete = IsDelivered (script_turns followed_script) 1
