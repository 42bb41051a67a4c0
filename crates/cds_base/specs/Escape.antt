-- Text that can stand in the character data and the attribute values of XML 1.0.
use Rattle.std.specs.Prelude.{◌==◌, ℕ, Bool, not, if◌then◌else◌, List, [], ◌∷◌, length, take_while, codes}
use Rattle.std.specs.Str.{bytes_eq}
use Rattle.std.specs.List.{flat_map}

-- What stands for a byte. It is an entity for the five characters of markup, and a reference for the three that a reader of an
-- attribute would turn into spaces. Every other byte stands for itself.
abbrev pub escaped_byte : ℕ → List ℕ
escaped_byte b =
    if b == 38 then codes "&amp;"
    else if b == 60 then codes "&lt;"
    else if b == 62 then codes "&gt;"
    else if b == 34 then codes "&quot;"
    else if b == 39 then codes "&apos;"
    else if b == 9 then codes "&#9;"
    else if b == 10 then codes "&#10;"
    else if b == 13 then codes "&#13;"
    else (b ∷ [])

-- Whether something else stands for a byte.
abbrev pub is_replaced : ℕ → Bool
is_replaced b = not (bytes_eq (escaped_byte b) (b ∷ []))

-- How many bytes stand before the first that is replaced.
abbrev pub plain_run_of : List ℕ → ℕ
plain_run_of bytes = length (take_while (λ b. not (is_replaced b)) bytes)

-- The escaped text.
abbrev pub escaped : List ℕ → List ℕ
escaped text = flat_map escaped_byte text
