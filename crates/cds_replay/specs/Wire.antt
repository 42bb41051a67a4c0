-- A wire between a script's server and its replica, which leaves of each reply what it does. The reads of the script are what the
-- bytes that it left are read as (UPnP Device Architecture 2.0 on control; UPnP ContentDirectory:4).
use Rattle.std.specs.Prelude.{◌≡◌, ◌⊎◌, ◌+◌, ℕ, Bool, true, false, cond, nat_lt, nat_le, List, [], ◌∷◌, ◌++◌, length, take, Option, Some, None, codes}
use Rattle.std.specs.List.{AllByRecursion}
use Rattle.std.specs.Fmt.{decimal}
use Rattle.cds_object.specs.Object.{ObjectRow}
use Rattle.cds_object.specs.Fragment.{full_text}
use Rattle.cds_soap.specs.Written.{written_answer}
use Rattle.cds_load.specs.Seen.{rows_shown, HasVersion}
use Rattle.cds_load.specs.Server.{Moment, reply_to}
use Rattle.cds_load.specs.declared.exchange.Ask.{Ask as Asked}
use Rattle.cds_load.specs.declared.exchange.Shown.{Shown}
use Rattle.cds_exchange.specs.Asking.{action_of}
use Rattle.cds_exchange.specs.Honest.{answer_saying}
use Rattle.cds_exchange.specs.Readings.{IsReading}
use Rattle.cds_follow.specs.Follow.{known_by, next_ask, says}
use Rattle.cds_follow.specs.declared.says.Says.TheVariants.{Stands}
use Rattle.cds_script.specs.Lines.{lines_of, ended_lines, script_limit, line_limit}
use Rattle.cds_script.specs.Script.{meaning_of}
use Rattle.cds_script.specs.Report.{Ending, written_first, outside_ending, limit_ending, script_ending}
use Rattle.cds_script.specs.declared.turn.Meaning.{Meaning}
use Rattle.cds_script.specs.declared.turn.Meaning.TheVariants.{Nothing, Means, Outside}
use Rattle.cds_script.specs.declared.turn.ScriptTurn.{ScriptTurn}
use Rattle.cds_script.specs.declared.turn.ScriptTurn.TheVariants.{Read, Ask}
use Rattle.cds_replay.specs.Wired.{ReplayStep, played_by, moment_by, may_stand_by, refuses, written_on, MayBeBy}

-- the URL that the bytes of tracks are under, for whoever asks a script's server
abbrev pub script_base : List ℕ
script_base = codes "http://127.0.0.1:49152"

-- the one reply that the server writes to an ask at a moment, in version 4 of the service, in which the replica asks
abbrev pub server_reply : Moment → Asked → List ℕ
server_reply moment ask = written_answer (action_of ask) 4 (answer_saying script_base (reply_to moment ask)) None

-- ---- what a wire leaves to be read

-- what is read of the reply to an ask is what the bytes that the wire left of it are read as; without an ask there is no reply
abbrev pub IsLeftOf : (List ℕ → List ℕ) → Moment → Option Asked → Option Shown → Type 0
IsLeftOf carried moment None read = read ≡ None
IsLeftOf carried moment (Some ask) read = IsReading ask (carried (server_reply moment ask)) read

-- so with the next ask of the replica if a turn is a read; no other turn has a reply
abbrev pub IsReadBy : (List ℕ → List ℕ) → List ReplayStep → ScriptTurn → Option Shown → Type 0
IsReadBy carried older Read read = IsLeftOf carried (moment_by older) (next_ask (known_by (played_by older).replica)) read
IsReadBy carried older turn read = read ≡ None

-- each step was read so
abbrev pub AreReadBy : (List ℕ → List ℕ) → List ReplayStep → Type 0
AreReadBy carried [] = Unit {0}
AreReadBy carried (step ∷ older) = IsReadBy carried older step.turn step.read × AreReadBy carried older

-- ---- how a script ends

-- the steps that it came to, the newest first, with the one that the replica refused; the number of that one's line; and the
-- status and all that was written. If a line is refused there is no status, told as 0, and what was written is that of the lines
-- before it
pub record WiredEnding : Type 0 where
  pub steps : List ReplayStep
  pub refused : Option ℕ
  pub ending : Ending

-- nothing was refused
abbrev pub unrefused : List ReplayStep → Ending → WiredEnding
unrefused steps ending = record { steps = steps; refused = None; ending = ending }

-- the step of a line was. The status 0 stands for none here: why the script ends, `refused` says
abbrev pub refused_at : List ReplayStep → ℕ → WiredEnding
refused_at steps number = record { steps = steps; refused = Some number; ending = record { status = 0; text = [] } }

-- with more written before it
abbrev pub wired_first : List ℕ → WiredEnding → WiredEnding
wired_first text later = record { steps = later.steps; refused = later.refused; ending = written_first text later.ending }

-- the first if a test holds, else the second
abbrev pub Either : Bool → Type 0 → Type 0 → Type 0
Either true P Q = P
Either false P Q = Q

-- a step that is refused ends the script; else it writes, and the script goes on
abbrev pub EndsAtStep : List ReplayStep → ReplayStep → ℕ → (List ReplayStep → WiredEnding → Type 0) → WiredEnding → Type 0
EndsAtStep older step number Later ending =
    Either (refuses older step) (ending ≡ refused_at (step ∷ older) number)
    ((later : WiredEnding) × Later (step ∷ older) later × (ending ≡ wired_first (written_on older step) later))

-- if a turn may stand, the reply to it is read as what the wire left of it; otherwise its line is outside the grammar
abbrev pub EndsAtTurn : (List ℕ → List ℕ) → List ReplayStep → ScriptTurn → ℕ → (List ReplayStep → WiredEnding → Type 0) → WiredEnding → Type 0
EndsAtTurn carried older turn number Later ending =
    Either (may_stand_by older turn)
    ((read : Option Shown) × IsReadBy carried older turn read × EndsAtStep older (record { turn = turn; read = read }) number Later ending)
    (ending ≡ unrefused older (outside_ending number))

-- how a script goes on at a line, by what it means: after these steps, at the line of this number, with what comes after further
-- ones
abbrev pub EndsAtLine : (List ℕ → List ℕ) → List ReplayStep → Meaning → ℕ → (List ReplayStep → WiredEnding → Type 0) → WiredEnding → Type 0
EndsAtLine carried steps Nothing number Later ending = Later steps ending
EndsAtLine carried steps (Means turn) number Later ending = EndsAtTurn carried steps turn number Later ending
EndsAtLine carried steps Outside number Later ending = ending ≡ unrefused steps (outside_ending number)

-- how a script ends after steps; the first of the lines that are left has this number. The last part says whether the script ends
-- with these lines, or passes its limit
abbrev pub EndsFrom : (List ℕ → List ℕ) → List ReplayStep → ℕ → List (List ℕ) → Bool → WiredEnding → Type 0
EndsFrom carried steps number [] whole ending = ending ≡ unrefused steps (cond whole (record { status = 0; text = [] }) limit_ending)
EndsFrom carried steps number (line ∷ lines) whole ending =
    Either (nat_lt line_limit (length line)) (ending ≡ unrefused steps limit_ending)
    (EndsAtLine carried steps (meaning_of line) number (λ now later. EndsFrom carried now (number + 1) lines whole later) ending)

-- the lines of bytes that have the room; of more bytes those that ended before it was passed
abbrev pub lines_in : ℕ → List ℕ → List (List ℕ)
lines_in room bytes = cond (nat_le (length bytes) room) (lines_of bytes) (ended_lines (take room bytes))

-- how a script goes on after steps, at the line of this number, if this many more bytes may be taken
abbrev pub EndsOf : (List ℕ → List ℕ) → List ReplayStep → ℕ → ℕ → List ℕ → WiredEnding → Type 0
EndsOf carried steps number room bytes ending = EndsFrom carried steps number (lines_in room bytes) (nat_le (length bytes) room) ending

-- how a script ends over a wire. It does so in one way (`wires_end_once`)
unfoldable pub EndsOver : (List ℕ → List ℕ) → List ℕ → WiredEnding → Type 0
EndsOver carried script ending = EndsOf carried [] 1 script_limit script ending

-- what holds of how a script ends over a wire
abbrev pub OnWire : (List ℕ → List ℕ) → List ℕ → (WiredEnding → Type 0) → Type 0
OnWire carried script P = (ending : WiredEnding) × EndsOver carried script ending × P ending

-- ---- what asks write

abbrev pub rows_read : Option Shown → List ObjectRow
rows_read None = []
rows_read (Some shown) = rows_shown shown

-- one of the replies among steps, as it was left, showed an object of a row's id with its content and its objectUpdateID
abbrev pub WasLeft : ObjectRow → List ReplayStep → Type 0
WasLeft row [] = ⊥
WasLeft row (step ∷ older) = HasVersion row (rows_read step.read) ⊎ WasLeft row older

-- an ask after steps writes that it stands at a number, and rows each of which was left so
pub record WritesWhatWasLeft (steps : List ReplayStep) (number : ℕ) : Type 0 where
  pub rows : List ObjectRow
  pub text : written_on steps (record { turn = Ask; read = None }) ≡ codes "stands " ++ decimal number ++ codes "\n" ++ full_text rows
  pub left : AllByRecursion (λ row. WasLeft row steps) rows

-- each ask among steps does, if the replica stands
abbrev pub AsksShow : List ReplayStep → Type 0
AsksShow steps = (newer older : List ReplayStep) (read : Option Shown) (number : ℕ) → steps ≡ newer ++ record { turn = Ask; read = read } ∷ older →
    says (played_by older).replica ≡ Stands number → WritesWhatWasLeft older number

-- ---- laws

-- whatever is read, asks write what was left
abbrev pub asks_write_what_was_left : Type 0
asks_write_what_was_left = (steps : List ReplayStep) → AsksShow steps

-- a script ends over a wire in one way
abbrev pub wires_end_once : Type 0
wires_end_once = (carried : List ℕ → List ℕ) (script : List ℕ) (one other : WiredEnding) →
    EndsOver carried script one → EndsOver carried script other → one ≡ other

-- over a wire that leaves each reply as it is nothing is refused
abbrev pub straight_wires_are_taken : Type 0
straight_wires_are_taken = (carried : List ℕ → List ℕ) (older : List ReplayStep) (step : ReplayStep) → ((bytes : List ℕ) → carried bytes ≡ bytes) →
    MayBeBy older → AreReadBy carried older → may_stand_by older step.turn ≡ true → IsReadBy carried older step.turn step.read → refuses older step ≡ false

-- over a wire that leaves each reply as it is a script ends as scripts do, and nothing is refused
abbrev pub straight_reports_are_the_scripts : Type 0
straight_reports_are_the_scripts = (carried : List ℕ → List ℕ) (script : List ℕ) (ending : WiredEnding) →
    ((bytes : List ℕ) → carried bytes ≡ bytes) → EndsOver carried script ending → (ending.refused ≡ None) × (ending.ending ≡ script_ending script)
