-- What the lines of bytes are, told by the lines and not byte by byte.
use Rattle.std.specs.Prelude.{◌≡◌, ℕ, true, List, [], ◌∷◌, ◌++◌}
use Rattle.std.specs.List.{AllByRecursion}
use Rattle.cds_script.specs.Lines.{lines_of, ended_lines, is_unbroken}

-- lines, each followed by an LF
abbrev pub with_feeds : List (List ℕ) → List ℕ
with_feeds [] = []
with_feeds (line ∷ lines) = line ++ 10 ∷ with_feeds lines

-- no LF is among the bytes of these lines
abbrev pub AreUnbroken : List (List ℕ) → Type 0
AreUnbroken = AllByRecursion (λ line. is_unbroken line ≡ true)

-- bytes are lines that are each followed by an LF, and a last line without one, which may have no bytes
pub record IsLines (bytes : List ℕ) : Type 0 where
  pub lines : List (List ℕ)
  pub last : List ℕ
  pub unbroken : AreUnbroken lines
  pub whole : is_unbroken last ≡ true
  pub is : bytes ≡ with_feeds lines ++ last

-- all bytes are such lines
abbrev pub scripts_are_lines : Type 0
scripts_are_lines = (bytes : List ℕ) → IsLines bytes

-- without a last line the lines are exactly those, and each was ended
abbrev pub ended_lines_are_read : Type 0
ended_lines_are_read = (lines : List (List ℕ)) → AreUnbroken lines → (lines_of (with_feeds lines) ≡ lines) × (ended_lines (with_feeds lines) ≡ lines)

-- a last line that has bytes is one more line, and the only one that was not ended
abbrev pub last_lines_are_read : Type 0
last_lines_are_read = (lines : List (List ℕ)) (b : ℕ) (last : List ℕ) → AreUnbroken lines → is_unbroken (b ∷ last) ≡ true →
    (lines_of (with_feeds lines ++ b ∷ last) ≡ lines ++ (b ∷ last) ∷ []) × (ended_lines (with_feeds lines ++ b ∷ last) ≡ lines)
