-- The texts that objects are shown with: allowed characters of XML 1.0 on one line, of at most 255 bytes in UTF-8 (this
-- project's profile).
use Rattle.std.specs.Prelude.{◌≡◌, ◌==◌, ◌-◌, ◌<◌, ◌≤◌, ◌&&◌, ◌||◌, ℕ, Bool, true, not, nat_le, cond, List, [], ◌∷◌, ◌++◌, length, map, chars, encode_utf8_all}
use Rattle.std.specs.Char.{len_utf8}
use Rattle.std.specs.List.{list_all}
use Rattle.cds_base.specs.Characters.{is_allowed}

-- a tab or a line end
abbrev pub ends_line : ℕ → Bool
ends_line c = (c == 9 || c == 10) || c == 13

-- the character that stands for one: a space for a tab or a line end, U+FFFD for one that is not allowed, and every
-- other itself
abbrev pub clean_character : ℕ → ℕ
clean_character c = cond (ends_line c) 32 (cond (is_allowed c) c 65533)

-- the longest prefix of the characters that takes at most this many bytes
abbrev pub fitting : ℕ → List ℕ → List ℕ
fitting room [] = []
fitting room (c ∷ cs) = cond (nat_le (len_utf8 c) room) (c ∷ fitting (room - len_utf8 c) cs) []

-- a text made so
unfoldable pub cleaned : List ℕ → List ℕ
cleaned text = encode_utf8_all (fitting 255 (map clean_character (chars text)))

-- whether a character stays as it is
abbrev pub is_clean_character : ℕ → Bool
is_clean_character c = is_allowed c && not (ends_line c)

-- a text of such characters, all of them whole, with at most 255 bytes
pub record IsClean (text : List ℕ) : Type 0 where
  pub characters : List ℕ
  pub each : list_all is_clean_character characters ≡ true
  pub are : encode_utf8_all characters ≡ text
  pub short : length text ≤ 255

-- a text is the longest prefix of some characters that takes at most 255 bytes
pub record IsLongestFront (characters text : List ℕ) : Type 0 where
  pub front : List ℕ
  pub rest : List ℕ
  pub split : characters ≡ front ++ rest
  pub are : text ≡ encode_utf8_all front
  pub short : length text ≤ 255
  -- with one more it would take more
  pub longest : (c : ℕ) (more : List ℕ) → rest ≡ c ∷ more → 255 < length (encode_utf8_all (front ++ c ∷ []))
