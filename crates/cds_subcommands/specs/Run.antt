-- The statuses that the program ends with, and what it leaves written (this project's profile).
use Rattle.std.specs.Prelude.{◌≡◌, ◌⊎◌, ℕ, List, ◌++◌, Option, Some}

-- a status that may come instead of any other: the input could not be read, the output could not be written, or memory ran out.
-- The first two come only with a count that rose, which clauses of their own say
abbrev pub IsFault : ℕ → Type 0
IsFault status = (status ≡ 2) ⊎ ((status ≡ 3) ⊎ (status ≡ 4))

-- the status is the one that is owed, or a fault
abbrev pub Ends : ℕ → ℕ → Type 0
Ends status owed = (status ≡ owed) ⊎ IsFault status

-- what was written is what is owed, or there was a fault
abbrev pub Writes : ℕ → List ℕ → List ℕ → Option (List ℕ) → Type 0
Writes status owed before after = (after ≡ Some (before ++ owed)) ⊎ IsFault status

-- the status of a text alone, which may fail to be written
abbrev pub EndsText : ℕ → ℕ → Type 0
EndsText status owed = (status ≡ owed) ⊎ (status ≡ 3)

abbrev pub WritesText : ℕ → List ℕ → List ℕ → Option (List ℕ) → Type 0
WritesText status owed before after = (after ≡ Some (before ++ owed)) ⊎ (status ≡ 3)
