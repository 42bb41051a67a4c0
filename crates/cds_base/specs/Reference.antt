-- References to characters in a document (XML 1.0 on character references and predefined entities).
use Rattle.std.specs.Prelude.{◌≡◌, ◌==◌, ℕ, if◌then◌else◌, Option, Some, None, List, [], ◌∷◌, ◌++◌, take, codes}
use Rattle.std.specs.Option.{option_and_then}
use Rattle.std.specs.Str.{bytes_eq}
use Rattle.cds_base.specs.Characters.{is_allowed}
use Rattle.cds_base.specs.Number.{number_in}

-- The number after `#`: hexadecimal digits after an `x`, decimal digits otherwise. Leading zeros are accepted.
abbrev pub number_after_sign : List ℕ → Option ℕ
number_after_sign [] = None
number_after_sign (first ∷ rest) = if first == 120 then number_in 16 rest else number_in 10 (first ∷ rest)

-- The number that stands after a `#`.
abbrev pub numbered : List ℕ → Option ℕ
numbered [] = None
numbered (first ∷ rest) = if first == 35 then number_after_sign rest else None

-- The code point that stands between `&` and `;`: one of the five entities that every document has, or a number.
abbrev pub code_of : List ℕ → Option ℕ
code_of name =
    if bytes_eq name (codes "amp") then Some 38
    else if bytes_eq name (codes "lt") then Some 60
    else if bytes_eq name (codes "gt") then Some 62
    else if bytes_eq name (codes "quot") then Some 34
    else if bytes_eq name (codes "apos") then Some 39
    else numbered name

-- A code point, if it is an allowed character.
abbrev pub where_allowed : ℕ → Option ℕ
where_allowed c = if is_allowed c then Some c else None

-- The allowed character that stands between `&` and `;`.
abbrev pub named : List ℕ → Option ℕ
named name = option_and_then where_allowed (code_of name)

-- The bytes are a reference to an allowed character, from the `&` to the `;`.
pub record IsReference (bytes : List ℕ) (character : ℕ) : Type 0 where
  pub name : List ℕ
  pub form : bytes ≡ 38 ∷ (name ++ 59 ∷ [])
  pub names : named name ≡ Some character

-- No prefix of these bytes is a reference.
abbrev pub BeginsNoReference : List ℕ → Type 0
BeginsNoReference bytes = (n character : ℕ) → ¬ (IsReference (take n bytes) character)
