-- Laws of a replica that an honest server gives its replies and notes, in every order, with losses and repeats. No reply and no
-- note is unreadable, jumps or is torn. (A note of an unknown name, or one that there is no room for, is refused.) If the replica
-- stands, its copy is the server's catalog at a scan end.
use Rattle.std.specs.Prelude.{◌≡◌, ◌≤◌, ◌||◌, ℕ, Bool, true, false, List, [], ◌∷◌, ◌++◌, Some, None, Contains}
use Rattle.std.specs.List.{AllByRecursion}
use Rattle.cds_catalog.specs.History.{end_of}
use Rattle.cds_catalog.specs.Catalog.{catalog}
use Rattle.cds_load.specs.Outcome.{Goes}
use Rattle.cds_load.specs.Server.{reply_to}
use Rattle.cds_load.specs.declared.exchange.Ask.{Ask}
use Rattle.cds_commands.specs.Commands.{Command, scans_of, oldest, AreAccepted}
use Rattle.cds_commands.specs.Notes.{Note, alive_names, notes_of}
use Rattle.cds_commands.specs.Releases.{released_to, releases_of}
use Rattle.cds_follow.specs.Inbox.{ReplicaTurn, Begins, Shows, Requests, Accepts, Refuses, Delivers, accepted, received, has_place, taken_by, IsTooMany, arrival}
use Rattle.cds_follow.specs.Follow.{Known, position, is_drop, known_by, next_ask, with_reply, with_notes, says, copied}
use Rattle.cds_follow.specs.Given.{moment_after, Entry, Starts, Asks, Calls, Granted, Denied, Gets, length_at, given_by, IsGiven}
use Rattle.cds_follow.specs.declared.says.Says.TheVariants.{Stands}

-- what an entry brings is taken after the turns before it: the reply to the next read; the notes that came early for a name that
-- is accepted; and a note that is delivered, with those that follow it
abbrev pub IsTaken : List ℕ → ℕ → List Command → Entry → List ReplicaTurn → Type 0
IsTaken token first commands (Starts k) turns = Unit {0}
IsTaken token first commands (Asks k) turns =
    (ask : Ask) → next_ask (known_by turns) ≡ Some ask →
    (now : Known) × (with_reply (known_by turns) (known_by turns).held (reply_to (moment_after token first (oldest k commands)) ask) ≡ Goes now)
IsTaken token first commands (Calls k) turns = Unit {0}
IsTaken token first commands (Granted k name) turns = (now : Known) × (with_notes (taken_by (Accepts name) turns) (known_by turns) ≡ Goes now)
IsTaken token first commands (Denied k) turns = Unit {0}
IsTaken token first commands (Gets k note) turns = (now : Known) × (with_notes (taken_by (Delivers note) turns) (known_by turns) ≡ Goes now)

-- of an honest server each reply can be read, and each reply and each note jumps over no change and tells only what can be
abbrev pub honest_calls_are_taken : Type 0
honest_calls_are_taken = (token : List ℕ) (first : ℕ) (commands : List Command) (entry : Entry) (older : List Entry) → AreAccepted first commands →
    IsGiven token first commands (entry ∷ older) → IsTaken token first commands entry (given_by token first commands older)

-- if the replica stands at a number, this is the end of the scans of some of the commands, at most those that the newest entry
-- knew. The copy is the catalog after them
abbrev pub honest_copies_stood : Type 0
honest_copies_stood = (token : List ℕ) (first : ℕ) (commands : List Command) (newest : Entry) (older : List Entry) (number : ℕ) → AreAccepted first commands →
    IsGiven token first commands (newest ∷ older) → says (given_by token first commands (newest ∷ older)) ≡ Stands number →
    (j : ℕ) × (j ≤ length_at newest) × (end_of (scans_of first (oldest j commands)) ≡ number)
    × (copied (known_by (given_by token first commands (newest ∷ older))) ≡ catalog (scans_of first (oldest j commands)))

-- a note that was delivered is received, if its name is the accepted one and there was room to hold it. No request, refusal or
-- other name that came later lost it
abbrev pub delivered_notes_are_received : Type 0
delivered_notes_are_received = (token : List ℕ) (first : ℕ) (commands : List Command) (newer : List Entry) (k : ℕ) (note : Note) (older : List Entry) →
    AreAccepted first commands → IsGiven token first commands (newer ++ Gets k note ∷ older) →
    accepted (given_by token first commands (newer ++ Gets k note ∷ older)) ≡ Some note.name →
    ((held : ℕ) → arrival note (given_by token first commands older) ≡ IsTooMany held → ⊥) →
    has_place (received (given_by token first commands (newer ++ Gets k note ∷ older))) note.place ≡ true

-- whether a turn begins a load; and whether one of some turns did, or took a first note that drops the copy
abbrev pub begins_load : ReplicaTurn → Bool
begins_load Begins = true
begins_load (Shows shown) = false
begins_load Requests = false
begins_load (Accepts name) = false
begins_load Refuses = false
begins_load (Delivers note) = false

abbrev pub load_was_begun : List ReplicaTurn → Bool
load_was_begun [] = false
load_was_begun (turn ∷ older) = begins_load turn || is_drop (position (known_by older)) (taken_by turn older) || load_was_begun older

-- the answer is complete under these conditions: a load was begun; the subscription that was accepted last lives; each note that
-- was sent to it was received; no change waits for its release; and nothing is to be read. Then the replica stands at the
-- server's number, whatever the server did without a change since the newest entry
abbrev pub honest_answers_are_complete : Type 0
honest_answers_are_complete = (token : List ℕ) (first : ℕ) (commands : List Command) (newest : Entry) (older : List Entry) (name now : ℕ) → AreAccepted first commands →
    IsGiven token first commands (newest ∷ older) → load_was_begun (given_by token first commands (newest ∷ older)) ≡ true →
    accepted (given_by token first commands (newest ∷ older)) ≡ Some name →
    Contains (alive_names now commands) name →
    AllByRecursion (λ (note : Note). note.name ≡ name → has_place (received (given_by token first commands (newest ∷ older))) note.place ≡ true) (notes_of first commands) →
    released_to first (releases_of first commands) ≡ end_of (scans_of first commands) →
    next_ask (known_by (given_by token first commands (newest ∷ older))) ≡ None →
    says (given_by token first commands (newest ∷ older)) ≡ Stands (end_of (scans_of first commands))
