-- What an honest server that accepted these commands gives a replica: its replies and notes.
use Rattle.std.specs.Prelude.{◌≡◌, ◌<◌, ◌≤◌, ℕ, true, List, [], ◌∷◌, Option, Some, None, Contains}
use Rattle.std.specs.List.{range_with_len}
use Rattle.cds_load.specs.Server.{Moment, moment_at, reply_to}
use Rattle.cds_load.specs.declared.exchange.Ask.{Ask}
use Rattle.cds_commands.specs.Commands.{Command, scans_of, oldest}
use Rattle.cds_commands.specs.Notes.{Note, notes_of}
use Rattle.cds_commands.specs.Subscriptions.{granted}
use Rattle.cds_follow.specs.Inbox.{ReplicaTurn, Begins, Shows, Requests, Accepts, Refuses, Delivers, is_out}
use Rattle.cds_follow.specs.Follow.{known_by, next_ask, and_turn}

-- what a server of a reset token that accepted commands has, after a first number
abbrev pub moment_after : List ℕ → ℕ → List Command → Moment
moment_after token first commands = moment_at token (scans_of first commands)

-- the numbers of the subscriptions that commands granted
abbrev pub grants_of : List Command → List ℕ
grants_of commands = range_with_len 1 (granted commands)

-- what a replica did, each at a length of the list of the server's commands: it began a load; its next ask was answered; its
-- subscribe request went out; the reply to it came, with a name or with a refusal; a note was delivered
pub data Entry : Type 0 where
  Starts : ℕ → Entry
  Asks : ℕ → Entry
  Calls : ℕ → Entry
  Granted : ℕ → ℕ → Entry
  Denied : ℕ → Entry
  Gets : ℕ → Note → Entry

abbrev pub length_at : Entry → ℕ
length_at (Starts k) = k
length_at (Asks k) = k
length_at (Calls k) = k
length_at (Granted k name) = k
length_at (Denied k) = k
length_at (Gets k note) = k

-- the turns with the reply to the next ask; if nothing is asked nothing is shown
abbrev pub asked_at : Moment → List ReplicaTurn → Option Ask → List ReplicaTurn
asked_at moment turns None = turns
asked_at moment turns (Some ask) = and_turn (Shows (reply_to moment ask)) turns

-- the replica's turns, each reply being the server's at its length; a turn that is refused is none
abbrev pub given_by : List ℕ → ℕ → List Command → List Entry → List ReplicaTurn
given_by token first commands [] = []
given_by token first commands (Starts k ∷ older) = Begins ∷ given_by token first commands older
given_by token first commands (Asks k ∷ older) =
    asked_at (moment_after token first (oldest k commands)) (given_by token first commands older) (next_ask (known_by (given_by token first commands older)))
given_by token first commands (Calls k ∷ older) = Requests ∷ given_by token first commands older
given_by token first commands (Granted k name ∷ older) = and_turn (Accepts name) (given_by token first commands older)
given_by token first commands (Denied k ∷ older) = Refuses ∷ given_by token first commands older
given_by token first commands (Gets k note ∷ older) = and_turn (Delivers note) (given_by token first commands older)

-- the length at the newest entry; 0 before any
abbrev pub latest_length : List Entry → ℕ
latest_length [] = 0
latest_length (entry ∷ older) = length_at entry

-- the length at the entry before the latest subscribe request went out
abbrev pub length_before_call : List Entry → ℕ
length_before_call [] = 0
length_before_call (Calls k ∷ older) = latest_length older
length_before_call (Starts k ∷ older) = length_before_call older
length_before_call (Asks k ∷ older) = length_before_call older
length_before_call (Granted k name ∷ older) = length_before_call older
length_before_call (Denied k ∷ older) = length_before_call older
length_before_call (Gets k note ∷ older) = length_before_call older

-- what holds of an entry after the older ones. A name is accepted while a request is out. It was granted within the commands of
-- its length, and not within those of the entry before this request. A note was sent within the commands of its length. A refusal
-- may come at any time
abbrev pub IsHonest : List ℕ → ℕ → List Command → List Entry → Entry → Type 0
IsHonest token first commands older (Starts k) = Unit {0}
IsHonest token first commands older (Asks k) = Unit {0}
IsHonest token first commands older (Calls k) = Unit {0}
IsHonest token first commands older (Granted k name) =
    (is_out (given_by token first commands older) ≡ true) × (granted (oldest (length_before_call older) commands) < name)
    × (name ≤ granted (oldest k commands))
IsHonest token first commands older (Denied k) = Unit {0}
IsHonest token first commands older (Gets k note) = Contains (notes_of first (oldest k commands)) note

-- the entries of a replica that an honest server gives: the lengths never fall
abbrev pub IsGiven : List ℕ → ℕ → List Command → List Entry → Type 0
IsGiven token first commands [] = Unit {0}
IsGiven token first commands (entry ∷ older) =
    (latest_length older ≤ length_at entry) × IsHonest token first commands older entry × IsGiven token first commands older
