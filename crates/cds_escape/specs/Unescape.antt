-- What a text with references says, and the place at which it first breaks the form of character data (XML 1.0).
use Rattle.std.specs.Prelude.{◌≡◌, ◌==◌, ℕ, ◌<◌, Bool, ◌&&◌, ◌||◌, not, IsTrue, ◌⊎◌, List, ◌++◌, length, take, drop, map, slice_index, encode_utf8, ⊤}
use Rattle.std.specs.List.{AllByRecursion, flat_map}
use Rattle.std.specs.Str.{encode_utf8_all}
use Rattle.cds_base.specs.Characters.{is_allowed}
use Rattle.cds_base.specs.Reference.{IsReference, BeginsNoReference}
use Rattle.cds_escape.specs.declared.unescaping.TextError.{TextError}
use Rattle.cds_escape.specs.declared.unescaping.TextError.TheVariants.{BadReference, BadCharacter, Mem}

-- A piece of a text, and the character that it says.
pub record Piece : Type 0 where
  pub written : List ℕ
  pub says : ℕ

-- A character that says itself: an allowed one other than the two that begin references and tags.
abbrev pub is_literal : ℕ → Bool
is_literal c = is_allowed c && not (c == 38 || c == 60)

-- A piece is a character that says itself, in UTF-8, or a reference.
abbrev pub IsPiece : Piece → Type 0
IsPiece piece = (IsTrue (is_literal piece.says) × (piece.written ≡ encode_utf8 piece.says)) ⊎ IsReference piece.written piece.says

-- The text is pieces, one after the other. The value is the characters that they say.
pub record Says (text value : List ℕ) : Type 0 where
  pub pieces : List Piece
  pub each : AllByRecursion IsPiece pieces
  pub text_is : text ≡ flat_map (λ piece. piece.written) pieces
  pub value_is : value ≡ encode_utf8_all (map (λ piece. piece.says) pieces)

-- The first `at` bytes are pieces.
abbrev pub ReadsTo : ℕ → List ℕ → Type 0
ReadsTo at text = (value : List ℕ) × Says (take at text) value

-- After pieces, an `&` stands at the place, and it begins no reference.
pub record IsBadReference (text : List ℕ) (at : ℕ) : Type 0 where
  pub before : ReadsTo at text
  pub inside : at < length text
  pub ampersand : slice_index text at ≡ 38
  pub none : BeginsNoReference (drop at text)

-- After pieces, a character stands at the place, and it is `<` or not allowed.
pub record IsBadCharacter (text : List ℕ) (at : ℕ) : Type 0 where
  pub before : ReadsTo at text
  pub inside : at < length text
  pub character : ℕ
  pub rest : List ℕ
  pub here : drop at text ≡ encode_utf8 character ++ rest
  pub bad : IsTrue (character == 60 || not (is_allowed character))

-- What a refusal says of the text. If memory ran out, it says nothing.
abbrev pub IsFault : List ℕ → TextError → Type 0
IsFault text (BadReference at) = IsBadReference text at
IsFault text (BadCharacter at) = IsBadCharacter text at
IsFault text Mem = ⊤

-- What a refusal at a place says of the text whose first character is there.
abbrev pub IsFaultHere : List ℕ → ℕ → TextError → Type 0
IsFaultHere text place (BadReference at) = (at ≡ place) × IsBadReference text 0
IsFaultHere text place (BadCharacter at) = (at ≡ place) × IsBadCharacter text 0
IsFaultHere text place Mem = ⊥

-- The refusal is this one, unless memory ran out.
abbrev pub IsOrMem : TextError → TextError → Type 0
IsOrMem wanted fault = (fault ≡ wanted) ⊎ (fault ≡ Mem)
