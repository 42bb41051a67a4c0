-- A script is lines ended by LF, each of words parted by one space (this project's profile).
use Rattle.std.specs.Prelude.{ℕ, Bool, cond, nat_eq, not, List, [], ◌∷◌}
use Rattle.std.specs.List.{slice_split, list_all, onto_first}
use Rattle.cds_base.specs.declared.limits.TheConstants.{INPUT_LIMIT}

-- the lines of a script without their LF; the last LF may be missing
abbrev pub lines_of : List ℕ → List (List ℕ)
lines_of [] = []
lines_of (b ∷ bytes) = cond (nat_eq b 10) ([] ∷ lines_of bytes) (onto_first b (lines_of bytes))

-- a byte put before the first line, if there is one
abbrev pub onto_line : ℕ → List (List ℕ) → List (List ℕ)
onto_line b [] = []
onto_line b (line ∷ lines) = (b ∷ line) ∷ lines

-- the lines that an LF ended
abbrev pub ended_lines : List ℕ → List (List ℕ)
ended_lines [] = []
ended_lines (b ∷ bytes) = cond (nat_eq b 10) ([] ∷ ended_lines bytes) (onto_line b (ended_lines bytes))

-- whether no LF is among bytes
abbrev pub is_unbroken : List ℕ → Bool
is_unbroken = list_all (λ b. not (nat_eq b 10))

-- how many bytes a script and a line of it have at most
abbrev pub script_limit : ℕ
script_limit = INPUT_LIMIT

abbrev pub line_limit : ℕ
line_limit = 4096

-- the parts of a line between its spaces
abbrev pub words_of : List ℕ → List (List ℕ)
words_of line = slice_split (λ b. nat_eq b 32) line
