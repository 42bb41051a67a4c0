-- What a script over a wire comes to. Its steps are the turns of its first lines, each read as the wire left its reply. Its
-- report is what they write, one after the other, and then a last line.
use Rattle.std.specs.Prelude.{◌≡◌, ◌⊎◌, ℕ, true, false, List, [], ◌∷◌, ◌++◌, take, Option, Some, None}
use Rattle.cds_script.specs.Played.{script_lines, turns_of}
use Rattle.cds_script.specs.Report.{Ending, written_first, outside_ending, limit_ending, script_ending}
use Rattle.cds_replay.specs.Wire.{WiredEnding, AreReadBy, EndsOver}
use Rattle.cds_replay.specs.Wired.{ReplayStep, turns_in, may_stand_by, refuses, written_on}

-- what steps write, one after the other, the oldest first
abbrev pub written_of : List ReplayStep → List ℕ
written_of [] = []
written_of (step ∷ older) = written_of older ++ written_on older step

-- the steps that the replica did not refuse, among steps of which it refused the newest or none
abbrev pub taken_of : Option ℕ → List ReplayStep → List ReplayStep
taken_of None steps = steps
taken_of (Some line) [] = []
taken_of (Some line) (step ∷ older) = older

-- each step may stand after the older ones, and nothing that it gives the replica is refused
abbrev pub AreTaken : List ReplayStep → Type 0
AreTaken [] = Unit {0}
AreTaken (step ∷ older) = (may_stand_by older step.turn ≡ true) × (refuses older step ≡ false) × AreTaken older

-- so each; or each except the newest, which may stand and is refused
abbrev pub AreTakenBut : Option ℕ → List ReplayStep → Type 0
AreTakenBut None steps = AreTaken steps
AreTakenBut (Some line) [] = ⊥
AreTakenBut (Some line) (step ∷ older) = (may_stand_by older step.turn ≡ true) × (refuses older step ≡ true) × AreTaken older

-- the status of a script and its last line. It comes to its end with 0 and no such line, a line is outside the grammar, or a
-- limit is passed. If a line is refused, it has none of its own
abbrev pub ends_well : Ending
ends_well = record { status = 0; text = [] }

abbrev pub IsLast : Option ℕ → Ending → Type 0
IsLast None last = (last ≡ ends_well) ⊎ ((last ≡ limit_ending) ⊎ ((line : ℕ) × (last ≡ outside_ending line)))
IsLast (Some line) last = last ≡ ends_well

pub record IsReported (carried : List ℕ → List ℕ) (script : List ℕ) (ending : WiredEnding) : Type 0 where
  pub lines : ℕ
  pub turns : turns_in ending.steps ≡ turns_of (take lines (script_lines script))
  pub read : AreReadBy carried ending.steps
  pub taken : AreTakenBut ending.refused ending.steps
  pub last : Ending
  pub is_last : IsLast ending.refused last
  pub report : ending.ending ≡ written_first (written_of (taken_of ending.refused ending.steps)) last

-- however a script ends over a wire, it ends so
abbrev pub wires_report_steps : Type 0
wires_report_steps = (carried : List ℕ → List ℕ) (script : List ℕ) (ending : WiredEnding) → EndsOver carried script ending → IsReported carried script ending

-- over a wire that leaves each reply as it is, as scripts do
pub record IsTheScripts (script : List ℕ) (ending : WiredEnding) : Type 0 where
  pub none : ending.refused ≡ None
  pub ends : ending.ending ≡ script_ending script
