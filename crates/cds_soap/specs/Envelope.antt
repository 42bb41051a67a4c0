-- What an envelope holds (SOAP 1.1 on Envelope, Header and Body).
use Rattle.std.specs.Prelude.{ℕ, if◌then◌else◌, Option, Some, None, List, [], ◌∷◌, codes}
use Rattle.std.specs.Option.{option_and_then}
use Rattle.cds_markup.specs.Document.{Meaning}
use Rattle.cds_markup.specs.Children.{nodes_in, elements_in, is_named, only_of, where_it}

-- One thing that may be missing after another.
infixl 10 ◌>>=◌
abbrev pub ◌>>=◌ : {A B : Type 0} → Option A → (A → Option B) → Option B
o >>= f = option_and_then f o

unfoldable pub envelope_space : List ℕ
envelope_space = codes "http://schemas.xmlsoap.org/soap/envelope/"

-- An element, if it has this name in the namespace of envelopes.
abbrev pub where_of_envelope : List ℕ → Meaning → Option Meaning
where_of_envelope local element = where_it (is_named envelope_space local) (Some element)

-- The Body among the child elements of an envelope: it stands alone, or after a Header.
abbrev pub behind_header : Meaning → Meaning → Option Meaning
behind_header header body = if is_named envelope_space (codes "Header") header then where_of_envelope (codes "Body") body else None

abbrev pub body_among : List Meaning → Option Meaning
body_among [] = None
body_among (body ∷ []) = where_of_envelope (codes "Body") body
body_among (header ∷ body ∷ []) = behind_header header body
body_among (first ∷ second ∷ third ∷ more) = None

abbrev pub body_of : Meaning → Option Meaning
body_of element =
    if is_named envelope_space (codes "Envelope") element then body_among (elements_in (nodes_in element)) else None

-- The one element in an element; text beside it is passed over.
abbrev pub only_inside : Meaning → Option Meaning
only_inside element = only_of (elements_in (nodes_in element))

-- The one element in the Body of an envelope. The envelope is the element of a document.
unfoldable pub in_envelope : Meaning → Option Meaning
in_envelope element = option_and_then only_inside (body_of element)
