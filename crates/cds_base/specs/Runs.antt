-- Letters of a document that a reader passes over at once.
use Rattle.std.specs.Prelude.{◌==◌, ℕ, Bool, ◌&&◌, ◌||◌, not, if◌then◌else◌, List, length, take_while}
use Rattle.std.specs.Int.{is_in_range, w64, trailing_zeros}

-- A byte that is one letter wherever letters stand in a document: in text, in the value of an attribute, in a section and in a
-- comment. It is ASCII from the space on without `&`, `<`, `>`, both quotes, `]` and `-`.
abbrev pub stands_for_itself : ℕ → Bool
stands_for_itself b = is_in_range 0x20 0x7F b && not (((b == 38 || b == 60) || (b == 62 || b == 34)) || ((b == 39 || b == 93) || b == 45))

-- How many bytes stand before the first that does not stand for itself.
abbrev pub letters_run_of : List ℕ → ℕ
letters_run_of bytes = length (take_while stands_for_itself bytes)

-- The place of the lowest bit that is set, and 32 if none is.
abbrev pub first_set : ℕ → ℕ
first_set bits = if bits == 0 then 32 else trailing_zeros w64 bits
