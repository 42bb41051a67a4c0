-- How the report of a script is counted as it comes, and how the counting ends.
use Rattle.std.specs.Prelude.{◌≡◌, ℕ, List, ◌++◌, Option, Some}
use Rattle.cds_script.specs.Report.{limit_ending, outside_ending}
use Rattle.cds_summary.specs.Summary.{summary_ending, summary_text}
use Rattle.cds_summary.specs.Tally.{IsTally}
use Rattle.cds_summary.specs.declared.tally.Tally.{Tally}
use Rattle.cds_replay.specs.Script.{GoesOn}
use Rattle.cds_replay.specs.Replay.{Holds}
use Rattle.cds_replay.specs.declared.script.Script.{Script}
use Rattle.cds_replay.specs.declared.play.ReplayError.{ReplayError}
use Rattle.cds_replay.specs.declared.play.ReplayError.TheVariants.{Line, ReadFault, WriteFault, Limit, Refused, Mem}

-- the wire of a script, which leaves each reply as it is
abbrev pub straight : List ℕ → List ℕ
straight bytes = bytes

-- a script goes on after these bytes, and what they wrote is counted
pub record Counting (script : Script) (tally : Tally) (before : List ℕ) : Type 0 where
  pub written : List ℕ
  pub goes : GoesOn straight script before written
  pub counted : IsTally tally written

-- a script ends well, and its report is counted
pub record Counted (tally : Tally) (script : List ℕ) : Type 0 where
  pub report : List ℕ
  pub counted : IsTally tally report
  pub ending : summary_ending script ≡ record { status = 0; text = summary_text report }

-- a script ends with a line outside the grammar, or at a limit
abbrev pub Halted : ReplayError → List ℕ → Type 0
Halted (Line line) script = summary_ending script ≡ outside_ending line
Halted ReadFault script = Unit {0}
Halted WriteFault script = Unit {0}
Halted Limit script = summary_ending script ≡ limit_ending
Halted (Refused line) script = Unit {0}
Halted Mem script = Unit {0}

-- an error of a script or of memory
abbrev pub IsOfScript : ReplayError → Type 0
IsOfScript (Line line) = Unit {0}
IsOfScript ReadFault = ⊥
IsOfScript WriteFault = ⊥
IsOfScript Limit = Unit {0}
IsOfScript (Refused line) = ⊥
IsOfScript Mem = Unit {0}

-- an error of a script, of memory or of a source
abbrev pub IsOfReading : ReplayError → Type 0
IsOfReading (Line line) = Unit {0}
IsOfReading ReadFault = Unit {0}
IsOfReading WriteFault = ⊥
IsOfReading Limit = Unit {0}
IsOfReading (Refused line) = ⊥
IsOfReading Mem = Unit {0}

-- an error of memory or of a sink
abbrev pub IsOfWriting : ReplayError → Type 0
IsOfWriting (Line line) = ⊥
IsOfWriting ReadFault = ⊥
IsOfWriting WriteFault = Unit {0}
IsOfWriting Limit = ⊥
IsOfWriting (Refused line) = ⊥
IsOfWriting Mem = Unit {0}

-- a script under way: a prefix of its bytes was taken, and what it wrote is counted. The source tells that the rest is left
pub record Midway (script : Script) (tally : Tally) (whole : List ℕ) (told : Option (List ℕ)) : Type 0 where
  pub front : List ℕ
  pub bytes : List ℕ
  pub parts : whole ≡ front ++ bytes
  pub left : told ≡ Some bytes
  pub counting : Counting script tally front

-- what is owed for a script was written: it has this status, and its text is in the sink
pub record Sums (status : ℕ) (before after : Option (List ℕ)) (script : List ℕ) : Type 0 where
  pub is : (summary_ending script).status ≡ status
  pub text : Holds before (summary_ending script).text after
