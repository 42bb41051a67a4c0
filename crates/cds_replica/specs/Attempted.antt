-- What a replica's calls say of the load in its turns, whatever server told and replied. They go by the attempt that runs, of the
-- replies that were taken since the load began or its number last changed. They also say that its rows were shown.
use Rattle.std.specs.Prelude.{◌≡◌, ◌⊎◌, ℕ, true, false, List, ◌∷◌, Option, None, Result, Ok, Err}
use Rattle.std.specs.Option.{option_and_then}
use Rattle.cds_load.specs.Attempts.{Verdict, attempt_of, ask_in, verdict_by, says_by, copied_by, ShowsRows, fine}
use Rattle.cds_load.specs.Stages.{Shows as LoadShows, BehindLoad as LoadRuns, Stands as LoadStands}
use Rattle.cds_load.specs.declared.exchange.Ask.{Ask}
use Rattle.cds_load.specs.declared.exchange.Read.{Read}
use Rattle.cds_load.specs.declared.exchange.Shown.{Shown}
use Rattle.cds_follow.specs.Copy.{KnownRow, rows_after}
use Rattle.cds_follow.specs.Inbox.{ReplicaTurn, missing}
use Rattle.cds_follow.specs.Follow.{Known, load_ended, known_by}
use Rattle.cds_follow.specs.KnownLaws.{has_copy}
use Rattle.cds_follow.specs.LoadTurns.{load_turns}
use Rattle.cds_follow.specs.declared.says.Says.{Says}
use Rattle.cds_follow.specs.declared.says.Says.TheVariants.{BehindLoad}
use Rattle.cds_replica.specs.State.{ReplicaState, StandsFor}
use Rattle.cds_replica.specs.declared.error.AnswerError.{AnswerError}
use Rattle.cds_replica.specs.declared.error.AnswerError.TheVariants.{Unreadable, Jump, Torn, Mem}
use Rattle.cds_load.specs.Outcome.{Outcome, CannotBeRead, Jumps, Tears}

-- while no copy stands the next ask is that of the attempt
abbrev pub AsksByAttempt : ReplicaState → Option Ask → Type 0
AsksByAttempt kept ask = (wrap : ℕ) (turns : List ReplicaTurn) → StandsFor kept wrap turns → ShowsRows (load_turns turns) → has_copy (known_by turns).held ≡ false →
    ask ≡ option_and_then ask_in (attempt_of (load_turns turns))

-- how a reply ends a load with a refusal: the attempt with it is complete, at a number. The changes above this number that notes
-- told meanwhile do not go on from its rows
pub record EndsRefused (turns : List ReplicaTurn) (shown : Shown) (outcome : Outcome Known) : Type 0 where
  pub number : ℕ
  pub complete : says_by (attempt_of (LoadShows shown ∷ load_turns turns)) ≡ LoadStands number
  pub refused : load_ended (known_by turns) number (copied_by (attempt_of (LoadShows shown ∷ load_turns turns))) ≡ outcome

-- an answer is the verdict on a reply. If the attempt takes it, the changes that notes told meanwhile may be refused at the
-- load's end, as they are then. If memory runs out, this is the answer instead
abbrev pub IsVerdict : List ReplicaTurn → Shown → Verdict → Result Read AnswerError → Type 0
IsVerdict turns shown verdict (Ok read) = verdict ≡ fine
IsVerdict turns shown verdict (Err Unreadable) = verdict ≡ CannotBeRead
IsVerdict turns shown verdict (Err (Jump expected first)) = (verdict ≡ fine) × EndsRefused turns shown (Jumps expected first)
IsVerdict turns shown verdict (Err (Torn id)) = (verdict ≡ Tears id) ⊎ ((verdict ≡ fine) × EndsRefused turns shown (Tears id))
IsVerdict turns shown verdict (Err Mem) = Unit {0}

-- while no copy stands a reply is judged by the attempt
abbrev pub TakesByAttempt : ReplicaState → Shown → Result Read AnswerError → Type 0
TakesByAttempt kept shown result = (wrap : ℕ) (turns : List ReplicaTurn) → StandsFor kept wrap turns → ShowsRows (LoadShows shown ∷ load_turns turns) →
    has_copy (known_by turns).held ≡ false → IsVerdict turns shown (verdict_by (attempt_of (load_turns turns)) shown) result

-- if no place is missing, a copy stands if and only if the attempt is complete
abbrev pub SaysByAttempt : ReplicaState → Says → Type 0
SaysByAttempt kept answer = (wrap : ℕ) (turns : List ReplicaTurn) → StandsFor kept wrap turns → ShowsRows (load_turns turns) → missing turns ≡ None →
    (answer ≡ BehindLoad → says_by (attempt_of (load_turns turns)) ≡ LoadRuns) × (says_by (attempt_of (load_turns turns)) ≡ LoadRuns → answer ≡ BehindLoad)

-- a copy has the rows that the attempt showed, in ascending order of ids, with all that befell it since
abbrev pub CopiesByAttempt : ReplicaState → List KnownRow → Type 0
CopiesByAttempt kept rows = (wrap : ℕ) (turns : List ReplicaTurn) → StandsFor kept wrap turns → ShowsRows (load_turns turns) → has_copy (known_by turns).held ≡ true →
    rows ≡ rows_after (copied_by (attempt_of (load_turns turns))) (known_by turns).happenings
