-- What a replica's calls say of the bytes of a reply: what `take` says of what these show to the next ask. Bytes that show
-- nothing cannot be read, and such a reply is no turn (UPnP Device Architecture 2.0 on control; UPnP ContentDirectory:4 on the
-- results of actions).
use Rattle.std.specs.Prelude.{◌≡◌, ℕ, List, ◌∷◌, Option, Some, None, Result, Err, OnErr, IfOk}
use Rattle.cds_load.specs.Server.{Moment, reply_to}
use Rattle.cds_load.specs.declared.exchange.Ask.{Ask}
use Rattle.cds_load.specs.declared.exchange.Read.{Read}
use Rattle.cds_load.specs.declared.exchange.Shown.{Shown}
use Rattle.cds_exchange.specs.Readings.{ReadsAs, IsReading}
use Rattle.cds_commands.specs.Commands.{Command, oldest, AreAccepted}
use Rattle.cds_follow.specs.Inbox.{ReplicaTurn, Shows}
use Rattle.cds_follow.specs.Follow.{Known, known_by, next_ask, with_reply, and_turn}
use Rattle.cds_follow.specs.Given.{grants_of, moment_after, Entry, Asks, given_by, IsGiven}
use Rattle.cds_follow.specs.Named.{TellApart, named}
use Rattle.cds_replica.specs.Answer.{read_of}
use Rattle.cds_replica.specs.Attempted.{TakesByAttempt}
use Rattle.cds_replica.specs.Calls.{TakesTurn, HoldsFew, IsAnswer, UnlessMem}
use Rattle.cds_replica.specs.Honest.{IsReadThen, TakesGiven}
use Rattle.cds_replica.specs.State.{ReplicaState, StandsFor}
use Rattle.cds_replica.specs.declared.error.AnswerError.{AnswerError}
use Rattle.cds_replica.specs.declared.error.AnswerError.TheVariants.{Unreadable}
use Rattle.cds_load.specs.Outcome.{Outcome, CannotBeRead}

-- what the bytes of a reply are read as to the next ask; if nothing is asked they are read as nothing
abbrev pub IsNextReading : Option Ask → List ℕ → Option Shown → Type 0
IsNextReading None bytes read = read ≡ None
IsNextReading (Some ask) bytes read = IsReading ask bytes read

-- the turns with what was read; if nothing was, there is no turn
abbrev pub and_shown : Option Shown → List ReplicaTurn → List ReplicaTurn
and_shown None turns = turns
and_shown (Some shown) turns = and_turn (Shows shown) turns

-- what becomes of what was read
abbrev pub with_reading : Known → Option Shown → Outcome Known
with_reading known None = CannotBeRead
with_reading known (Some shown) = with_reply known known.held shown

-- what stood for some turns stands for them and the reply, if it can be read and what it shows is not refused
abbrev pub TakesReply : ReplicaState → List ℕ → ReplicaState → Type 0
TakesReply old bytes new = (wrap : ℕ) (turns : List ReplicaTurn) (read : Option Shown) → StandsFor old wrap turns →
    IsNextReading (next_ask (known_by turns)) bytes read → StandsFor new wrap (and_shown read turns)

-- an answer is exactly what becomes of what the bytes are read as
abbrev pub AnswersReply : ReplicaState → List ℕ → Result Read AnswerError → Type 0
AnswersReply old bytes result = (wrap : ℕ) (turns : List ReplicaTurn) (read : Option Shown) → StandsFor old wrap turns →
    IsNextReading (next_ask (known_by turns)) bytes read → IsAnswer (with_reading (known_by turns) read) result

-- unless memory ran out the bytes are read, as something or as nothing
abbrev pub IsRead : Option Ask → List ℕ → Result Read AnswerError → Type 0
IsRead ask bytes result = UnlessMem result ((read : Option Shown) × IsNextReading ask bytes read)

-- what holds of what the bytes show to the next ask, if they show something
abbrev pub WhereShown : Option Ask → List ℕ → (Shown → Type 0) → Type 0
WhereShown ask bytes P = (shown : Shown) → IsNextReading ask bytes (Some shown) → P shown

-- all that `take` says of what was shown; and of bytes that show nothing, that they are refused
pub record TakesShown (old : ReplicaState) (shown : Shown) (new : ReplicaState) (result : Result Read AnswerError) : Type 0 where
  pub unchanged : OnErr result (new ≡ old)
  pub stands : UnlessMem result (TakesTurn old (Shows shown) new)
  pub answer : (wrap : ℕ) (turns : List ReplicaTurn) → StandsFor old wrap turns → IsAnswer (with_reply (known_by turns) (known_by turns).held shown) result
  pub read : IfOk result (λ (read : Read). read ≡ read_of shown)
  pub given : TakesGiven old shown new result
  pub attempt : TakesByAttempt old shown result
  pub few : HoldsFew new

pub record IsUnreadable (old new : ReplicaState) (result : Result Read AnswerError) : Type 0 where
  pub refused : result ≡ Err Unreadable
  pub unchanged : new ≡ old

abbrev pub TakesRead : ReplicaState → Option Shown → ReplicaState → Result Read AnswerError → Type 0
TakesRead old None new result = IsUnreadable old new result
TakesRead old (Some shown) new result = TakesShown old shown new result

-- the bytes show what a server replies to the next ask after some turns
abbrev pub IsReplyGiven : Moment → List ReplicaTurn → List ℕ → Type 0
IsReplyGiven moment turns bytes = (ask : Ask) → next_ask (known_by turns) ≡ Some ask → ReadsAs ask bytes (reply_to moment ask)

-- what stood for the entries of a server stands for them and one more read
abbrev pub AnswersGiven : ReplicaState → List ℕ → ReplicaState → Result Read AnswerError → Type 0
AnswersGiven old bytes new result = (token : List ℕ) (names : ℕ → ℕ) (wrap first : ℕ) (commands : List Command) (entries : List Entry) (k : ℕ) →
    TellApart names (grants_of commands) → AreAccepted first commands →
    IsGiven token first commands (Asks k ∷ entries) → StandsFor old wrap (named names (given_by token first commands entries)) →
    IsReplyGiven (moment_after token first (oldest k commands)) (given_by token first commands entries) bytes →
    IsReadThen result (StandsFor new wrap (named names (given_by token first commands (Asks k ∷ entries))))
