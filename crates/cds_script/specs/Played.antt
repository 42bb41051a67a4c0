-- The turns of a script and the report of turns. The report of a script is that of its turns and its last line.
use Rattle.std.specs.Prelude.{◌≡◌, ◌≤◌, ◌+◌, ℕ, Bool, true, false, cond, not, nat_lt, nat_le, ◌&&◌, List, [], ◌∷◌, ◌++◌, length, take, drop, reverse, Option, Some, None}
use Rattle.std.specs.List.{filter_map}
use Rattle.cds_script.specs.Lines.{lines_of, ended_lines, script_limit, line_limit}
use Rattle.cds_script.specs.Script.{meaning_of}
use Rattle.cds_script.specs.Report.{Ending, written_first, outside_ending, limit_ending, first_of, may_stand, written_by, script_ending}
use Rattle.cds_script.specs.declared.turn.Meaning.{Meaning}
use Rattle.cds_script.specs.declared.turn.Meaning.TheVariants.{Nothing, Means, Outside}
use Rattle.cds_script.specs.declared.turn.ScriptTurn.{ScriptTurn}

-- the lines of a script that is within its limit; of a longer one those that ended before the limit was passed
abbrev pub script_lines : List ℕ → List (List ℕ)
script_lines bytes = cond (nat_le (length bytes) script_limit) (lines_of bytes) (ended_lines (take script_limit bytes))

-- whether a line is too long
abbrev pub is_long : List ℕ → Bool
is_long line = nat_lt line_limit (length line)

-- the turn that a line means, if it means one
abbrev pub turn_in : Meaning → Option ScriptTurn
turn_in Nothing = None
turn_in (Means turn) = Some turn
turn_in Outside = None

-- the turns that lines mean, the newest first
abbrev pub turns_of : List (List ℕ) → List ScriptTurn
turns_of lines = reverse (filter_map (λ line. turn_in (meaning_of line)) lines)

-- whether a meaning is within the grammar after turns
abbrev pub is_within : List ScriptTurn → Meaning → Bool
is_within turns Nothing = true
is_within turns (Means turn) = may_stand turns turn
is_within turns Outside = false

-- whether a line is short enough and within the grammar after turns
abbrev pub is_answered : List ScriptTurn → List ℕ → Bool
is_answered turns line = not (is_long line) && is_within turns (meaning_of line)

-- turns with the one that a line means, if it means one
abbrev pub and_meant : Option ScriptTurn → List ScriptTurn → List ScriptTurn
and_meant None turns = turns
and_meant (Some turn) turns = turn ∷ turns

-- how many lines are answered after turns: those before the first that is too long or outside the grammar
abbrev pub answered_lines : List ScriptTurn → List (List ℕ) → ℕ
answered_lines turns [] = 0
answered_lines turns (line ∷ lines) =
    cond (is_answered turns line) (answered_lines (and_meant (turn_in (meaning_of line)) turns) lines + 1) 0

-- how many lines of a script are answered
abbrev pub answered_of : List ℕ → ℕ
answered_of bytes = answered_lines [] (script_lines bytes)

-- the turns of a script: those that its answered lines mean
abbrev pub script_turns : List ℕ → List ScriptTurn
script_turns bytes = turns_of (take (answered_of bytes) (script_lines bytes))

-- what turns write, one after the other
abbrev pub report_of : List ScriptTurn → List ℕ
report_of [] = []
report_of (turn ∷ older) = report_of older ++ written_by older turn

-- the status and the last line of a script that comes to these lines. The first of them is not answered and has this number. If
-- there are none, the script ends well, or it is too long
abbrev pub stop_at : ℕ → List (List ℕ) → Bool → Ending
stop_at number [] whole = cond whole (record { status = 0; text = [] }) limit_ending
stop_at number (line ∷ later) whole = cond (is_long line) limit_ending (outside_ending number)

-- the status of a script and its last line, if it has one besides those of its turns
abbrev pub script_stop : List ℕ → Ending
script_stop bytes = stop_at (answered_of bytes + 1) (drop (answered_of bytes) (script_lines bytes)) (nat_le (length bytes) script_limit)

-- the report of a script is that of its turns, and its last line
abbrev pub IsReportOf : List ScriptTurn → Ending → Ending → Type 0
IsReportOf turns stop ending = ending ≡ written_first (report_of turns) stop

abbrev pub reports_are_of_turns : Type 0
reports_are_of_turns = (bytes : List ℕ) → IsReportOf (script_turns bytes) (script_stop bytes) (script_ending bytes)

-- turns that may be a script's: each may stand after the older ones, and the first number is one of the server's
abbrev pub AllStand : List ScriptTurn → Type 0
AllStand [] = Unit {0}
AllStand (turn ∷ older) = (may_stand older turn ≡ true) × AllStand older

pub record MayBe (turns : List ScriptTurn) : Type 0 where
  pub stand : AllStand turns
  pub number : first_of turns ≤ 4294967295

-- the turns of a script are such turns
abbrev pub script_turns_may_be : Type 0
script_turns_may_be = (bytes : List ℕ) → MayBe (script_turns bytes)
