-- The tokens of a text, each with the place of its first byte: the longest token that begins there (this project's profile of
-- UPnP ContentDirectory:4 on SearchCriteria). What is laid out in a text is what is found in it.
use Rattle.std.specs.Prelude.{◌+◌, ◌==◌, ◌||◌, ℕ, suc, zero, Bool, true, false, cond, List, [], ◌∷◌, length}
use Rattle.std.specs.Str.{bytes_eq}
use Rattle.cds_criteria.specs.Criteria.{Token}
use Rattle.cds_criteria.specs.Criteria.{Id, ParentId, Title, Class, Artist, Album, Genre, TrackNumber, ObjectUpdate, ContainerUpdate, Size, Duration}
use Rattle.cds_criteria.specs.Criteria.{Equals, Differs, Below, AtMost, Above, AtLeast, Contains, DoesNotContain, DerivedFrom}
use Rattle.cds_criteria.specs.Criteria.{Star, Open, Close, AndWord, OrWord, Existence, Truth, Name, Sign, Value, Stray, CutSign, CutValue}
use Rattle.cds_criteria.specs.Criteria.{token_text, is_space, is_word_byte}
pub use Rattle.cds_criteria.specs.declared.token.Found.{Found}

-- ---- words

-- all words except properties
abbrev pub other_words : List Token
other_words = Sign Contains ∷ Sign DoesNotContain ∷ Sign DerivedFrom ∷ AndWord ∷ OrWord ∷ Existence ∷ Truth true ∷ Truth false ∷ []

abbrev pub words : List Token
words =
    Name Id ∷ Name ParentId ∷ Name Title ∷ Name Class ∷ Name Artist ∷ Name Album ∷ Name Genre ∷ Name TrackNumber ∷ Name ObjectUpdate
    ∷ Name ContainerUpdate ∷ Name Size ∷ Name Duration ∷ other_words

-- the token among these that has a text
abbrev pub token_among : List Token → List ℕ → Token
token_among [] text = Stray
token_among (token ∷ tokens) text = cond (bytes_eq text (token_text token)) token (token_among tokens text)

abbrev pub other_word_token : List ℕ → Token
other_word_token text = token_among other_words text

abbrev pub word_token : List ℕ → Token
word_token text = token_among words text

-- ---- a token and how many bytes it has

abbrev pub found : Token → ℕ → Found
found token size = record { token = token; size = size }

-- an operator that `=` may follow
abbrev pub sign_found : Token → Token → List ℕ → Found
sign_found alone equal [] = found alone 1
sign_found alone equal (b ∷ text) = cond (b == 61) (found equal 2) (found alone 1)

-- a value with one more byte at its front
abbrev pub with_value_byte : ℕ → Token → Token
with_value_byte b (Value value) = Value (b ∷ value)
with_value_byte b token = token

abbrev pub with_byte : ℕ → Found → Found
with_byte b f = found (with_value_byte b f.token) (suc f.size)

abbrev pub longer : Found → Found
longer f = found f.token (suc f.size)

-- a value after its first `"`, and whether a `\` stands before its next byte
abbrev pub value_found : Bool → List ℕ → Found
value_found escaped [] = found CutValue 0
value_found false (b ∷ text) =
    elim (b == 34) [
      | true ↦ found (Value []) 1
      | false ↦ elim (b == 92) [ true ↦ longer (value_found true text) | false ↦ with_byte b (value_found false text) ]
    ]
value_found true (b ∷ text) = elim (b == 34 || b == 92) [ true ↦ with_byte b (value_found false text) | false ↦ found Stray 0 ]

-- the bytes of a word at the start of a text
abbrev pub word_prefix : List ℕ → List ℕ
word_prefix [] = []
word_prefix (b ∷ text) = elim (is_word_byte b) [ true ↦ b ∷ word_prefix text | false ↦ [] ]

abbrev pub word_found : List ℕ → Found
word_found word = found (word_token word) (length word)

-- `!` is an operator only with `=`. Before any other byte it can stand nowhere, and the end of the text cuts it off.
abbrev pub not_found : List ℕ → Found
not_found [] = found CutSign 1
not_found (b ∷ text) = cond (b == 61) (found (Sign Differs) 2) (found Stray 1)

-- a mark except `"`
abbrev pub other_mark_found : ℕ → List ℕ → Found
other_mark_found b text =
    cond (b == 40) (found Open 1)
    (cond (b == 41) (found Close 1)
    (cond (b == 42) (found Star 1)
    (cond (b == 61) (found (Sign Equals) 1)
    (cond (b == 60) (sign_found (Sign Below) (Sign AtMost) text)
    (cond (b == 62) (sign_found (Sign Above) (Sign AtLeast) text)
    (cond (b == 33) (not_found text) (found Stray 1)))))))

abbrev pub mark_found : ℕ → List ℕ → Found
mark_found b text = cond (b == 34) (longer (value_found false text)) (other_mark_found b text)

-- the token that begins a text whose first byte is no white space
abbrev pub token_found : ℕ → List ℕ → Found
token_found b text = cond (is_word_byte b) (word_found (word_prefix (b ∷ text))) (mark_found b text)

-- the token that begins a text
abbrev pub token_at : List ℕ → Found
token_at [] = found Stray 0
token_at (b ∷ text) = token_found b text

pub record Placed : Type 0 where
  pub at : ℕ
  pub token : Token

abbrev pub less_one : ℕ → ℕ
less_one zero = zero
less_one (suc n) = n

abbrev pub token_then : ℕ → Found → (ℕ → List Placed) → List Placed
token_then at f others = record { at = at; token = f.token } ∷ others (less_one f.size)

-- the tokens of a text that begins at a place; its first bytes are passed over, as many as still belong to the token before
abbrev pub tokens_from : ℕ → ℕ → List ℕ → List Placed
tokens_from skip at [] = []
tokens_from (suc skip) at (b ∷ text) = tokens_from skip (at + 1) text
tokens_from zero at (b ∷ text) =
    elim (is_space b) [
      | true ↦ tokens_from 0 (at + 1) text
      | false ↦ token_then at (token_found b text) (λ skip. tokens_from skip (at + 1) text)
    ]

abbrev pub tokens_of : List ℕ → List Placed
tokens_of text = tokens_from 0 0 text
