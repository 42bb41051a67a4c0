-- Generated scripts are within the language of scripts, line by line, and within its limits. They are played to their end.
use Rattle.std.specs.Prelude.{◌≡◌, ◌≤◌, ℕ, List, [], length, drop}
use Rattle.std.specs.List.{AllByRecursion}
use Rattle.cds_script.specs.Lines.{lines_of, ended_lines, line_limit, script_limit}
use Rattle.cds_commands.specs.Notes.{alive_names}
use Rattle.cds_script.specs.Played.{script_stop, script_turns}
use Rattle.cds_script.specs.Report.{played}
use Rattle.cds_script.specs.Script.{meaning_of}
use Rattle.cds_script.specs.declared.turn.Meaning.TheVariants.{Means}
use Rattle.cds_script.specs.declared.turn.ScriptTurn.{ScriptTurn}
use Rattle.cds_generate.specs.Generated.{generated}

-- a line means a turn, and is short enough
pub record IsTurnLine (line : List ℕ) : Type 0 where
  pub turn : ScriptTurn
  pub means : meaning_of line ≡ Means turn
  pub short : length line ≤ line_limit

-- so is each line, and each line was ended
abbrev pub lines_are_turns : Type 0
lines_are_turns = (seed count : ℕ) → 1 ≤ count → count ≤ 10000 →
    AllByRecursion IsTurnLine (lines_of (generated seed count)) × (ended_lines (generated seed count) ≡ lines_of (generated seed count))

-- a generated script is within the limit of scripts
abbrev pub scripts_are_short : Type 0
scripts_are_short = (seed count : ℕ) → 1 ≤ count → count ≤ 10000 → length (generated seed count) ≤ script_limit

-- whatever the moment, at most 64 subscriptions live after turns
abbrev pub HasFew : List ScriptTurn → Type 0
HasFew turns = (now : ℕ) → length (alive_names now (played turns).commands) ≤ 64

-- a script is played to its end, with status 0: each line is one of the language where it stands, and each note was sent when it is
-- delivered. After any of its turns at most 64 subscriptions live
pub record IsPlayed (script : List ℕ) : Type 0 where
  pub well : script_stop script ≡ record { status = 0; text = [] }
  pub few : (newer : ℕ) → HasFew (drop newer (script_turns script))

abbrev pub scripts_are_played : Type 0
scripts_are_played = (seed count : ℕ) → 1 ≤ count → count ≤ 10000 → IsPlayed (generated seed count)
