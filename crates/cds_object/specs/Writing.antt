-- Pieces of XML without prefixes of their own: attributes and elements around a text or a number (XML 1.0).
use Rattle.std.specs.Prelude.{ℕ, List, ◌++◌, codes}
use Rattle.std.specs.Fmt.{decimal}
use Rattle.cds_base.specs.Escape.{escaped}

-- an attribute after a space, around a value as it stands there
unfoldable pub attribute : List ℕ → List ℕ → List ℕ
attribute name value = codes " " ++ name ++ codes "=\"" ++ value ++ codes "\""

-- an attribute after a space, around a number
unfoldable pub number_attribute : List ℕ → ℕ → List ℕ
number_attribute name number = codes " " ++ name ++ codes "=\"" ++ decimal number ++ codes "\""

-- an element without attributes around a text, which is escaped
unfoldable pub text_element : List ℕ → List ℕ → List ℕ
text_element name text = codes "<" ++ name ++ codes ">" ++ escaped text ++ codes "</" ++ name ++ codes ">"

-- an element without attributes around a number
unfoldable pub number_element : List ℕ → ℕ → List ℕ
number_element name n = codes "<" ++ name ++ codes ">" ++ decimal n ++ codes "</" ++ name ++ codes ">"
