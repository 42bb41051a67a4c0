-- How a script goes on after its bytes so far, and how it ends.
use Rattle.std.specs.Prelude.{◌≡◌, ℕ, Bool, ◌+◌, ◌-◌, ◌<◌, ◌≤◌, true, List, [], ◌++◌, length, Option, Some, None, codes}
use Rattle.std.specs.Fmt.{decimal}
use Rattle.cds_script.specs.declared.turn.Meaning.{Meaning}
use Rattle.cds_script.specs.Lines.{is_unbroken, line_limit, script_limit}
use Rattle.cds_script.specs.Script.{moment_limit}
use Rattle.cds_replay.specs.Session.{Playing, IsAfter, IsPlayed}
use Rattle.cds_replay.specs.Wire.{WiredEnding, wired_first, EndsAtLine, EndsFrom, EndsOf, EndsOver}
use Rattle.cds_replay.specs.Wired.{ReplayStep}
use Rattle.cds_replay.specs.declared.script.Script.{Script}
use Rattle.cds_replay.specs.declared.script.ScriptStop.{ScriptStop}
use Rattle.cds_replay.specs.declared.script.ScriptStop.TheVariants.{Outside, Limit, Refused}

-- the status of a script that stops before its last byte. A refusal by the replica is no status of a script's: 0 stands for none,
-- and the line's number in `refused` says why it stops
abbrev pub stop_status : ScriptStop → ℕ
stop_status (Outside line) = 1
stop_status Limit = 6
stop_status (Refused line) = 0

-- the last line that it writes, if it writes one
abbrev pub stop_text : ScriptStop → List ℕ
stop_text (Outside line) = codes "error line " ++ decimal line ++ codes "\n"
stop_text Limit = codes "error limit\n"
stop_text (Refused line) = []

-- and the line that gave what the replica refused, if it refused something
abbrev pub stop_refused : ScriptStop → Option ℕ
stop_refused (Outside line) = None
stop_refused Limit = None
stop_refused (Refused line) = Some line

-- how many bytes more a script may have
abbrev pub left_in : Script → ℕ
left_in script = script.room - length script.partial.items

-- what is true of a script that has not stopped: its last line has not ended and is within both limits; each record, each
-- subscription and each line took at least one byte; its moment is one of a script, and its session stands for some turns
pub record Sound (carried : List ℕ → List ℕ) (script : Script) : Type 0 where
  pub whole : is_unbroken script.partial.items ≡ true
  pub short : length script.partial.items ≤ line_limit
  pub within : length script.partial.items ≤ script.room
  pub found : length script.session.found + script.room ≤ script_limit
  pub granted : script.session.server.book.subscribed.granted + script.room ≤ script_limit
  pub moment : script.session.clock < moment_limit
  pub played : IsPlayed carried script.session
  pub lines : script.line + script.room ≤ script_limit + 1

-- how a script goes on whose bytes so far wrote this: they are those before its last line, and what has come of that line. Its
-- session stands for some steps, and the last line and what comes after it are still to be taken
pub record GoesOn (carried : List ℕ → List ℕ) (script : Script) (before written : List ℕ) : Type 0 where
  pub front : List ℕ
  pub parts : before ≡ front ++ script.partial.items
  pub steps : List ReplayStep
  pub after : IsAfter script.session steps
  pub goes : (more : List ℕ) (later : WiredEnding) → EndsOf carried steps script.line script.room more later →
      EndsOver carried (front ++ more) (wired_first written later)

-- a script took a piece: what was added to the text is written, and it goes on after it
pub record Went (carried : List ℕ → List ℕ) (before written piece old new : List ℕ) (script : Script) : Type 0 where
  pub added : List ℕ
  pub goes : GoesOn carried script (before ++ piece) (written ++ added)
  pub out : new ≡ old ++ added

-- a script ends with these bytes, and a prefix of them wrote this before: with a refusal or none, a status, and what was added to
-- the text, which ends with this
pub record EndsAt (carried : List ℕ → List ℕ) (bytes written : List ℕ) (refused : Option ℕ) (status : ℕ) (last old new : List ℕ) : Type 0 where
  pub ending : WiredEnding
  pub is : EndsOver carried bytes ending
  pub front : List ℕ
  pub out : new ≡ old ++ (front ++ last)
  pub at : ending.refused ≡ refused
  pub ends : ending.ending ≡ record { status = status; text = written ++ (front ++ last) }

-- so with a stop
abbrev pub StopsAt : (List ℕ → List ℕ) → List ℕ → List ℕ → ScriptStop → List ℕ → List ℕ → Type 0
StopsAt carried bytes written stop old new = EndsAt carried bytes written (stop_refused stop) (stop_status stop) (stop_text stop) old new

-- what became of a script that took a piece
abbrev pub Fed : (List ℕ → List ℕ) → Option ScriptStop → List ℕ → List ℕ → List ℕ → List ℕ → List ℕ → Script → Type 0
Fed carried None before written piece old new script = Went carried before written piece old new script
Fed carried (Some stop) before written piece old new script = (more : List ℕ) → StopsAt carried ((before ++ piece) ++ more) written stop old new

-- what became of a script whose last byte has come
abbrev pub Finished : (List ℕ → List ℕ) → Option ScriptStop → List ℕ → List ℕ → List ℕ → List ℕ → Type 0
Finished carried None bytes written old new = EndsAt carried bytes written None 0 [] old new
Finished carried (Some stop) bytes written old new = StopsAt carried bytes written stop old new

-- what holds of a script that has not stopped
abbrev pub WhileGoing : Option ScriptStop → Type 0 → Type 0
WhileGoing None P = P
WhileGoing (Some stop) P = Unit {0}

-- what holds if a script stopped at a limit
abbrev pub AtLimit : Option ScriptStop → Type 0 → Type 0
AtLimit None P = Unit {0}
AtLimit (Some (Outside line)) P = Unit {0}
AtLimit (Some Limit) P = P
AtLimit (Some (Refused line)) P = Unit {0}

-- and if the replica refused what a line gave it
abbrev pub AtRefusal : Option ScriptStop → Type 0 → Type 0
AtRefusal None P = Unit {0}
AtRefusal (Some (Outside line)) P = Unit {0}
AtRefusal (Some Limit) P = Unit {0}
AtRefusal (Some (Refused line)) P = P

-- what comes after a line: these lines, the first of which has the next number, and whether they are all
abbrev pub Continued : (List ℕ → List ℕ) → ℕ → List (List ℕ) → Bool → List ReplayStep → WiredEnding → Type 0
Continued carried number lines whole now later = EndsFrom carried now (number + 1) lines whole later

-- a line did what it means: the session stands for the steps with this one, and what the turn writes was added
pub record LineTaken (carried : List ℕ → List ℕ) (steps : List ReplayStep) (meaning : Meaning) (number : ℕ) (old new : List ℕ) (session : Playing) : Type 0 where
  pub now : List ReplayStep
  pub added : List ℕ
  pub after : IsAfter session now
  pub out : new ≡ old ++ added
  pub first : (lines : List (List ℕ)) (whole : Bool) (later : WiredEnding) → Continued carried number lines whole now later →
      EndsAtLine carried steps meaning number (Continued carried number lines whole) (wired_first added later)

-- a line ends its script
pub record LineStops (carried : List ℕ → List ℕ) (steps : List ReplayStep) (meaning : Meaning) (number : ℕ) (stop : ScriptStop) (old new : List ℕ) : Type 0 where
  pub now : List ReplayStep
  pub out : new ≡ old ++ stop_text stop
  pub ends : (lines : List (List ℕ)) (whole : Bool) → EndsAtLine carried steps meaning number (Continued carried number lines whole)
      (record { steps = now; refused = stop_refused stop; ending = record { status = stop_status stop; text = stop_text stop } })

-- what became of a line
abbrev pub LineRead : (List ℕ → List ℕ) → Option ScriptStop → List ReplayStep → Meaning → ℕ → List ℕ → List ℕ → Playing → Type 0
LineRead carried None steps meaning number old new session = LineTaken carried steps meaning number old new session
LineRead carried (Some stop) steps meaning number old new session = LineStops carried steps meaning number stop old new
