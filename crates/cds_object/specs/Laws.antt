-- Laws of paths and of clean texts, beside their definitions.
use Rattle.std.specs.Prelude.{◌≡◌, ◌↔◌, ◌||◌, ℕ, nat_le, nat_eq, Bool, List, [], ◌∷◌, ◌++◌, length, drop, map, chars, Some, None}
use Rattle.std.specs.List.{slice_split, flat_map, join_with_byte}
use Rattle.cds_object.specs.Clean.{clean_character, cleaned, IsClean, IsLongestFront}
use Rattle.cds_object.specs.First.{NoneRefused, IsFirstRefused}
use Rattle.cds_object.specs.Path.{is_bad_name, bad_name_at}

-- the names in the text of a path, which are separated by `/`
abbrev pub names_of : List ℕ → List (List ℕ)
names_of text = slice_split (λ b. nat_eq b 47) text

-- whether a name after others cannot stand in a path: there are 16 before it, or it is bad by itself
abbrev pub cannot_stand : List (List ℕ) → List ℕ → Bool
cannot_stand before name = nat_le 16 (length before) || is_bad_name name

-- the first name that cannot stand begins this many bytes into the text
pub record IsBadNamePlace (text : List ℕ) (at : ℕ) : Type 0 where
  pub before : List (List ℕ)
  pub name : List ℕ
  pub rest : List (List ℕ)
  pub first : IsFirstRefused cannot_stand (names_of text) before name rest
  -- each name before it has a `/` after it
  pub place : at ≡ length (flat_map (λ n. n ++ 47 ∷ []) before)
  pub here : drop at text ≡ join_with_byte 47 (name ∷ rest)

-- a text is refused at a place exactly if the first name that cannot stand begins there
abbrev pub bad_names_have_their_place : Type 0
bad_names_have_their_place =
    ((text : List ℕ) (at : ℕ) → (bad_name_at 0 0 (names_of text) ≡ Some at) ↔ IsBadNamePlace text at)
    × ((text : List ℕ) → (bad_name_at 0 0 (names_of text) ≡ None) ↔ NoneRefused cannot_stand (names_of text))

-- what is left of a text is clean; it is the longest prefix that may stay of its characters, each as it stands for
-- itself; a clean text stays as it is
abbrev pub texts_are_cleaned : Type 0
texts_are_cleaned =
    ((text : List ℕ) → IsClean (cleaned text))
    × ((text : List ℕ) → IsLongestFront (map clean_character (chars text)) (cleaned text))
    × ((text : List ℕ) → IsClean text → cleaned text ≡ text)
