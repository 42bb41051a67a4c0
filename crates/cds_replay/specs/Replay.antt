-- How a replay ends, and what its sink holds then.
use Rattle.std.specs.Prelude.{◌≡◌, ℕ, List, [], ◌++◌, Option, Some, None, Result, Ok, Err}
use Rattle.cds_outside.specs.Outside.{Told}
use Rattle.cds_replay.specs.Script.{GoesOn, stop_status, stop_text, stop_refused}
use Rattle.cds_replay.specs.Wire.{WiredEnding, EndsOver}
use Rattle.cds_replay.specs.declared.script.Script.{Script}
use Rattle.cds_replay.specs.declared.script.ScriptStop.{ScriptStop}
use Rattle.cds_replay.specs.declared.script.ScriptStop.TheVariants.{Outside, Limit as PastLimit, Refused as RefusedAt}
use Rattle.cds_replay.specs.declared.play.ReplayError.{ReplayError}
use Rattle.cds_replay.specs.declared.play.ReplayError.TheVariants.{Line, ReadFault, WriteFault, Limit, Refused, Mem}

-- what holds if a line was outside the grammar, by its number
abbrev pub OnLine : ReplayError → (ℕ → Type 0) → Type 0
OnLine (Line line) P = P line
OnLine ReadFault P = Unit {0}
OnLine WriteFault P = Unit {0}
OnLine Limit P = Unit {0}
OnLine (Refused line) P = Unit {0}
OnLine Mem P = Unit {0}

-- what holds if the replica refused what a line gave it, by the line's number
abbrev pub OnRefused : ReplayError → (ℕ → Type 0) → Type 0
OnRefused (Line line) P = Unit {0}
OnRefused ReadFault P = Unit {0}
OnRefused WriteFault P = Unit {0}
OnRefused Limit P = Unit {0}
OnRefused (Refused line) P = P line
OnRefused Mem P = Unit {0}

-- what holds if a limit was passed
abbrev pub OnLimit : ReplayError → Type 0 → Type 0
OnLimit (Line line) P = Unit {0}
OnLimit ReadFault P = Unit {0}
OnLimit WriteFault P = Unit {0}
OnLimit Limit P = P
OnLimit (Refused line) P = Unit {0}
OnLimit Mem P = Unit {0}

-- what holds if a read failed
abbrev pub OnReadFault : ReplayError → Type 0 → Type 0
OnReadFault (Line line) P = Unit {0}
OnReadFault ReadFault P = P
OnReadFault WriteFault P = Unit {0}
OnReadFault Limit P = Unit {0}
OnReadFault (Refused line) P = Unit {0}
OnReadFault Mem P = Unit {0}

-- what holds if a write failed
abbrev pub OnWriteFault : ReplayError → Type 0 → Type 0
OnWriteFault (Line line) P = Unit {0}
OnWriteFault ReadFault P = Unit {0}
OnWriteFault WriteFault P = P
OnWriteFault Limit P = Unit {0}
OnWriteFault (Refused line) P = Unit {0}
OnWriteFault Mem P = Unit {0}

-- a sink holds what it held before and then this text, if it tells what it held before
abbrev pub Holds : Option (List ℕ) → List ℕ → Option (List ℕ) → Type 0
Holds before text after = Told before (λ held. after ≡ Some (held ++ text))

-- a script ends so: the line that was refused, if one was, the status, and all that it writes is in the sink
pub record Reports (refused : Option ℕ) (status : ℕ) (before after : Option (List ℕ)) (ending : WiredEnding) : Type 0 where
  pub at : ending.refused ≡ refused
  pub is : ending.ending.status ≡ status
  pub report : Holds before ending.ending.text after

-- and so with this at the end of its text
abbrev pub EndsWith : List ℕ → WiredEnding → Type 0
EndsWith text ending = (front : List ℕ) × (ending.ending.text ≡ front ++ text)

-- a script took a piece: it goes on after it, and what it wrote so far is in the sink
pub record Played (carried : List ℕ → List ℕ) (before written piece : List ℕ) (held after : Option (List ℕ)) (script : Script) : Type 0 where
  pub added : List ℕ
  pub goes : GoesOn carried script (before ++ piece) (written ++ added)
  pub holds : Holds held added after

-- a script ends with these bytes, and a prefix of them wrote this before. It ends with a refusal or none, and a status. What it
-- writes besides, which ends with this, is in the sink
pub record Closes (carried : List ℕ → List ℕ) (bytes written : List ℕ) (refused : Option ℕ) (status : ℕ) (last : List ℕ) (held after : Option (List ℕ)) : Type 0 where
  pub ending : WiredEnding
  pub is : EndsOver carried bytes ending
  pub at : ending.refused ≡ refused
  pub ends : ending.ending.status ≡ status
  pub front : List ℕ
  pub text : ending.ending.text ≡ written ++ (front ++ last)
  pub holds : Holds held (front ++ last) after

abbrev pub EndsIn : (List ℕ → List ℕ) → List ℕ → List ℕ → Option (List ℕ) → Option (List ℕ) → Type 0
EndsIn carried bytes written held after = Closes carried bytes written None 0 [] held after

abbrev pub StopsIn : (List ℕ → List ℕ) → List ℕ → List ℕ → ScriptStop → Option (List ℕ) → Option (List ℕ) → Type 0
StopsIn carried bytes written stop held after = Closes carried bytes written (stop_refused stop) (stop_status stop) (stop_text stop) held after

-- what became of a script that ends with an error: a stop, or none of the script's
abbrev pub Stopped : (List ℕ → List ℕ) → ReplayError → List ℕ → List ℕ → Option (List ℕ) → Option (List ℕ) → Type 0
Stopped carried (Line line) bytes written held after = StopsIn carried bytes written (Outside line) held after
Stopped carried ReadFault bytes written held after = Unit {0}
Stopped carried WriteFault bytes written held after = Unit {0}
Stopped carried Limit bytes written held after = StopsIn carried bytes written PastLimit held after
Stopped carried (Refused line) bytes written held after = StopsIn carried bytes written (RefusedAt line) held after
Stopped carried Mem bytes written held after = Unit {0}

-- a stop, as an answer
abbrev pub answer_of : Option ScriptStop → Result (Unit {0}) ReplayError
answer_of None = Ok tt
answer_of (Some (Outside line)) = Err (Line line)
answer_of (Some PastLimit) = Err Limit
answer_of (Some (RefusedAt line)) = Err (Refused line)

-- a replay under way: a prefix of the bytes was taken, and what it wrote is in the sink. The source tells that the rest is left
pub record Under (carried : List ℕ → List ℕ) (whole : List ℕ) (told held after : Option (List ℕ)) (script : Script) : Type 0 where
  pub front : List ℕ
  pub bytes : List ℕ
  pub parts : whole ≡ front ++ bytes
  pub left : told ≡ Some bytes
  pub written : List ℕ
  pub goes : GoesOn carried script front written
  pub holds : Holds held written after
