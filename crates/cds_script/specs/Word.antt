-- What a word of a script stands for: visible ASCII for itself, and `%` with two upper-case hexadecimal digits for any byte (this
-- project's profile).
use Rattle.std.specs.Prelude.{◌≡◌, ◌↔◌, ◌+◌, ◌-◌, ◌*◌, ◌/◌, ◌%◌, ◌<◌, ℕ, Bool, true, cond, not, nat_eq, nat_le, nat_lt, ◌&&◌, List, [], ◌∷◌, ◌++◌, length, map, Option, Some, None}
use Rattle.std.specs.List.{AllByRecursion, list_all, flat_map, join_with_byte}
use Rattle.cds_script.specs.Lines.{words_of}

-- whether a byte of a part of a line stands for itself
abbrev pub is_plain_byte : ℕ → Bool
is_plain_byte b = nat_le 33 b && nat_le b 126 && not (nat_eq b 37)

abbrev pub plain_byte : ℕ → Option ℕ
plain_byte b = cond (is_plain_byte b) (Some b) None

-- the value of an upper-case hexadecimal digit
abbrev pub digit_value : ℕ → Option ℕ
digit_value b = cond (nat_le 48 b && nat_le b 57) (Some (b - 48)) (cond (nat_le 65 b && nat_le b 70) (Some (b - 55)) None)

-- the byte that two digits stand for
abbrev pub escaped_byte : Option ℕ → Option ℕ → Option ℕ
escaped_byte (Some high) (Some low) = Some (16 * high + low)
escaped_byte high low = None

-- a byte before others, if both are there
abbrev pub byte_before : Option ℕ → Option (List ℕ) → Option (List ℕ)
byte_before (Some b) (Some bytes) = Some (b ∷ bytes)
byte_before b bytes = None

-- the bytes that a part of a line stands for, if it is of such pieces alone
abbrev pub decoded : List ℕ → Option (List ℕ)
decoded [] = Some []
decoded (b ∷ []) = byte_before (plain_byte b) (Some [])
decoded (b ∷ c ∷ []) = byte_before (plain_byte b) (decoded (c ∷ []))
decoded (b ∷ c ∷ d ∷ rest) =
    cond (nat_eq b 37) (byte_before (escaped_byte (digit_value c) (digit_value d)) (decoded rest))
    (byte_before (plain_byte b) (decoded (c ∷ d ∷ rest)))

-- a word has at least one byte
abbrev pub word_said : List ℕ → Option (List ℕ)
word_said part = cond (nat_lt 0 (length part)) (decoded part) None

-- a word before others, if all are there
abbrev pub word_before : Option (List ℕ) → Option (List (List ℕ)) → Option (List (List ℕ))
word_before (Some word) (Some words) = Some (word ∷ words)
word_before word words = None

-- the words of the parts of a line, if each is one
abbrev pub words_said : List (List ℕ) → Option (List (List ℕ))
words_said [] = Some []
words_said (part ∷ parts) = word_before (word_said part) (words_said parts)

-- how a byte is written in a word
abbrev pub hex_digit : ℕ → ℕ
hex_digit n = cond (nat_lt n 10) (48 + n) (55 + n)

abbrev pub encoded_byte : ℕ → List ℕ
encoded_byte b = cond (is_plain_byte b) (b ∷ []) (37 ∷ hex_digit (b / 16) ∷ hex_digit (b % 16) ∷ [])

abbrev pub encoded : List ℕ → List ℕ
encoded [] = []
encoded (b ∷ bytes) = encoded_byte b ++ encoded bytes

-- any bytes can be written so
abbrev pub any_bytes_can_be_written : Type 0
any_bytes_can_be_written = (bytes : List ℕ) → AllByRecursion (λ b. b < 256) bytes → decoded (encoded bytes) ≡ Some bytes

-- visible ASCII without `%` stands for itself
abbrev pub plain_words_stand_for_themselves : Type 0
plain_words_stand_for_themselves = (part : List ℕ) → list_all is_plain_byte part ≡ true → decoded part ≡ Some part

-- a piece of a word: a byte that stands for itself, or `%` with the digits of two numbers
pub data Piece : Type 0 where
  Plain : ℕ → Piece
  Escape : ℕ → ℕ → Piece

abbrev pub IsPiece : Piece → Type 0
IsPiece (Plain b) = is_plain_byte b ≡ true
IsPiece (Escape high low) = (high < 16) × (low < 16)

-- how a piece stands in a word, and the byte that it stands for
abbrev pub text_of_piece : Piece → List ℕ
text_of_piece (Plain b) = b ∷ []
text_of_piece (Escape high low) = 37 ∷ hex_digit high ∷ hex_digit low ∷ []

abbrev pub byte_of_piece : Piece → ℕ
byte_of_piece (Plain b) = b
byte_of_piece (Escape high low) = 16 * high + low

-- a part of a line is pieces, one after the other, which stand for these bytes
pub record IsOfPieces (part bytes : List ℕ) : Type 0 where
  pub pieces : List Piece
  pub all : AllByRecursion IsPiece pieces
  pub text : flat_map text_of_piece pieces ≡ part
  pub meant : map byte_of_piece pieces ≡ bytes

-- a part of a line stands for bytes if and only if it is such pieces; so every other part is no word
abbrev pub words_are_of_pieces : Type 0
words_are_of_pieces = (part bytes : List ℕ) → (decoded part ≡ Some bytes) ↔ IsOfPieces part bytes

-- what is written so has visible bytes alone, so no space and no LF
abbrev pub is_visible : ℕ → Bool
is_visible b = nat_le 33 b && nat_le b 126

abbrev pub written_words_are_visible : Type 0
written_words_are_visible = (bytes : List ℕ) → AllByRecursion (λ b. b < 256) bytes → list_all is_visible (encoded bytes) ≡ true

-- bytes that can be a word: at least one
abbrev pub CanBeWord : List ℕ → Type 0
CanBeWord word = (0 < length word) × AllByRecursion (λ b. b < 256) word

-- words that are written so, with a space between each two, are read back from their line
abbrev pub written_lines_are_read : Type 0
written_lines_are_read = (word : List ℕ) (words : List (List ℕ)) → AllByRecursion CanBeWord (word ∷ words) →
    words_said (words_of (join_with_byte 32 (map encoded (word ∷ words)))) ≡ Some (word ∷ words)
