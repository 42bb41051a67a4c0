-- Words are pieces one behind the other, and what is written is read back.
use Rattle.std.proofs.Common.{◌≡◌, ℕ, ◌+◌, ◌-◌, ◌*◌, ◌/◌, ◌%◌, ◌<◌, subst, List, [], ◌∷◌, ◌++◌, refl, sym, ap, ◌∙◌, arith, length, map, Option, Some, None, Bool, true, false, not, cond, ◌&&◌}
use Rattle.std.specs.Prelude.{nat_lt, nat_le, nat_eq}
use Rattle.std.specs.List.{AllByRecursion, list_all, flat_map, onto_first, join_with_byte}
use Rattle.std.proofs.lemmas.Bool.{and_parts, and_from}
use Rattle.std.proofs.lemmas.Bool.Decides.{nat_tests}
use Rattle.std.proofs.lemmas.List.Splits.{slice_split-cons_no}
use Rattle.cds_script.specs.Lines.{words_of}
use Rattle.cds_script.specs.Word.{is_plain_byte, plain_byte, digit_value, escaped_byte, byte_before, word_before, decoded, hex_digit, encoded_byte, encoded, word_said, words_said, Piece, Plain, Escape, IsPiece, text_of_piece, byte_of_piece, IsOfPieces, words_are_of_pieces, is_visible, written_words_are_visible, CanBeWord, written_lines_are_read}
use Rattle.cds_script.proofs.Words.{plain-first, digit-back, any-bytes}

-- ---- a word is its pieces

record IsBefore (first : Option ℕ) (rest : Option (List ℕ)) (bytes : List ℕ) : Type 0 where
  byte : ℕ
  more : List ℕ
  here : first ≡ Some byte
  behind : rest ≡ Some more
  are : byte ∷ more ≡ bytes

before-parts : (first : Option ℕ) (rest : Option (List ℕ)) (bytes : List ℕ) → byte_before first rest ≡ Some bytes → IsBefore first rest bytes
before-parts None rest bytes e = absurd (cc)
before-parts (Some b) None bytes e = absurd (cc)
before-parts (Some b) (Some more) bytes e = record { byte = b; more = more; here = refl; behind = refl; are = cc }

plain-said : (b byte : ℕ) → plain_byte b ≡ Some byte → (is_plain_byte b ≡ true) × (b ≡ byte)
plain-said b byte e = by (is_plain_byte b) refl e
  where
    by : (c : Bool) → is_plain_byte b ≡ c → cond c (Some b) None ≡ Some byte → (is_plain_byte b ≡ true) × (b ≡ byte)
    by true t f = (t, cc)
    by false t f = absurd (cc)

digit-said : (c n : ℕ) → digit_value c ≡ Some n → (n < 16) × (hex_digit n ≡ c)
digit-said c n e = by (nat_le 48 c && nat_le c 57) refl (nat_le 65 c && nat_le c 70) refl e
  where
    by : (small : Bool) → (nat_le 48 c && nat_le c 57) ≡ small → (great : Bool) → (nat_le 65 c && nat_le c 70) ≡ great →
        cond small (Some (c - 48)) (cond great (Some (c - 55)) None) ≡ Some n → (n < 16) × (hex_digit n ≡ c)
    by true s great g f =
        let n-is : c - 48 ≡ n = cc in
        let parts = and_parts (nat_le 48 c) (nat_le c 57) s in
        (grind (arith, nat_tests), grind (arith, nat_tests))
    by false s true g f =
        let n-is : c - 55 ≡ n = cc in
        let parts = and_parts (nat_le 65 c) (nat_le c 70) g in
        (grind (arith, nat_tests), grind (arith, nat_tests))
    by false s false g f = absurd (cc)

record IsEscaped (first second : Option ℕ) (byte : ℕ) : Type 0 where
  high : ℕ
  low : ℕ
  one : first ≡ Some high
  two : second ≡ Some low
  is : 16 * high + low ≡ byte

escaped-parts : (first second : Option ℕ) (byte : ℕ) → escaped_byte first second ≡ Some byte → IsEscaped first second byte
escaped-parts None second byte e = absurd (cc)
escaped-parts (Some high) None byte e = absurd (cc)
escaped-parts (Some high) (Some low) byte e = record { high = high; low = low; one = refl; two = refl; is = cc }

-- a piece before others
plain-behind : (b : ℕ) (rest bytes : List ℕ) → is_plain_byte b ≡ true → IsOfPieces rest bytes → IsOfPieces (b ∷ rest) (b ∷ bytes)
plain-behind b rest bytes e o = record {
  pieces = Plain b ∷ o.pieces;
  all = (e, o.all);
  text = ap (λ more. b ∷ more) o.text;
  meant = ap (λ more. b ∷ more) o.meant;
}

escape-behind : (high low : ℕ) (rest bytes : List ℕ) → high < 16 → low < 16 → IsOfPieces rest bytes →
    IsOfPieces (37 ∷ hex_digit high ∷ hex_digit low ∷ rest) ((16 * high + low) ∷ bytes)
escape-behind high low rest bytes h l o = record {
  pieces = Escape high low ∷ o.pieces;
  all = ((h, l), o.all);
  text = ap (λ more. 37 ∷ hex_digit high ∷ hex_digit low ∷ more) o.text;
  meant = ap (λ more. (16 * high + low) ∷ more) o.meant;
}

of-plain : (b : ℕ) (rest bytes : List ℕ) → ((more : List ℕ) → decoded rest ≡ Some more → IsOfPieces rest more) →
    byte_before (plain_byte b) (decoded rest) ≡ Some bytes → IsOfPieces (b ∷ rest) bytes
of-plain b rest bytes next e =
    let p = before-parts (plain_byte b) (decoded rest) bytes e in
    let s = plain-said b p.byte p.here in
    let o = plain-behind b rest p.more s.0 (next p.more p.behind) in
    subst (λ word. IsOfPieces (b ∷ rest) word) (ap (λ byte. byte ∷ p.more) s.1 ∙ p.are) o

of-escape : (b c d : ℕ) (rest bytes : List ℕ) → nat_eq b 37 ≡ true → ((more : List ℕ) → decoded rest ≡ Some more → IsOfPieces rest more) →
    byte_before (escaped_byte (digit_value c) (digit_value d)) (decoded rest) ≡ Some bytes → IsOfPieces (b ∷ c ∷ d ∷ rest) bytes
of-escape b c d rest bytes t next e =
    let p = before-parts (escaped_byte (digit_value c) (digit_value d)) (decoded rest) bytes e in
    let s = escaped-parts (digit_value c) (digit_value d) p.byte p.here in
    let one = digit-said c s.high s.one in
    let two = digit-said d s.low s.two in
    let o = escape-behind s.high s.low rest p.more one.0 two.0 (next p.more p.behind) in
    let first : 37 ≡ b = grind (arith, nat_tests) in
    let text : 37 ∷ hex_digit s.high ∷ hex_digit s.low ∷ rest ≡ b ∷ c ∷ d ∷ rest = λ i. first i ∷ one.1 i ∷ two.1 i ∷ rest in
    subst (λ t. IsOfPieces t bytes) text (subst (λ word. IsOfPieces (37 ∷ hex_digit s.high ∷ hex_digit s.low ∷ rest) word) (ap (λ byte. byte ∷ p.more) s.is ∙ p.are) o)

of-pieces : (part bytes : List ℕ) → decoded part ≡ Some bytes → IsOfPieces part bytes
of-pieces [] bytes e = record { pieces = []; all = tt; text = refl; meant = cc }
of-pieces (b ∷ []) bytes e = of-plain b [] bytes (λ more f. of-pieces [] more f) e
of-pieces (b ∷ c ∷ []) bytes e = of-plain b (c ∷ []) bytes (λ more f. of-pieces (c ∷ []) more f) e
of-pieces (b ∷ c ∷ d ∷ rest) bytes e = by (nat_eq b 37) refl e (λ more f. of-pieces rest more f) (λ more f. of-pieces (c ∷ d ∷ rest) more f)
  where
    by : (t : Bool) → nat_eq b 37 ≡ t →
        cond t (byte_before (escaped_byte (digit_value c) (digit_value d)) (decoded rest)) (byte_before (plain_byte b) (decoded (c ∷ d ∷ rest))) ≡ Some bytes →
        ((more : List ℕ) → decoded rest ≡ Some more → IsOfPieces rest more) →
        ((more : List ℕ) → decoded (c ∷ d ∷ rest) ≡ Some more → IsOfPieces (c ∷ d ∷ rest) more) → IsOfPieces (b ∷ c ∷ d ∷ rest) bytes
    by true t f behind next = of-escape b c d rest bytes t behind f
    by false t f behind next = of-plain b (c ∷ d ∷ rest) bytes next f

pieces-decode : (pieces : List Piece) → AllByRecursion IsPiece pieces → decoded (flat_map text_of_piece pieces) ≡ Some (map byte_of_piece pieces)
pieces-decode [] all = refl
pieces-decode (Plain b ∷ pieces) all =
    plain-first b (flat_map text_of_piece pieces) all.0 ∙ ap (byte_before (Some b)) (pieces-decode pieces all.1)
pieces-decode (Escape high low ∷ pieces) all =
    λ i. byte_before (escaped_byte (digit-back high all.0.0 i) (digit-back low all.0.1 i)) (pieces-decode pieces all.1 i)

pub of_pieces-law : words_are_of_pieces
of_pieces-law part bytes = (of-pieces part bytes, λ o. ap decoded (sym o.text) ∙ pieces-decode o.pieces o.all ∙ ap Some o.meant)

-- ---- what is written is visible

visible-append : (xs ys : List ℕ) → list_all is_visible xs ≡ true → list_all is_visible ys ≡ true → list_all is_visible (xs ++ ys) ≡ true
visible-append [] ys all more = more
visible-append (x ∷ xs) ys all more = let parts = and_parts _ _ all in and_from _ _ parts.0 (visible-append xs ys parts.1 more)

digit-visible : (n : ℕ) → n < 16 → is_visible (hex_digit n) ≡ true
digit-visible n low = by (nat_lt n 10) refl
  where
    by : (b : Bool) → nat_lt n 10 ≡ b → is_visible (cond b (48 + n) (55 + n)) ≡ true
    by true e = grind (arith, nat_tests)
    by false e = grind (arith, nat_tests)

plain-visible : (b : ℕ) → is_plain_byte b ≡ true → is_visible b ≡ true
plain-visible b e =
    (and_parts (nat_le 33 b && nat_le b 126) (not (nat_eq b 37)) e).0

byte-visible : (b : ℕ) → b < 256 → list_all is_visible (encoded_byte b) ≡ true
byte-visible b low = by (is_plain_byte b) refl
  where
    by : (c : Bool) → is_plain_byte b ≡ c →
        list_all is_visible (cond c (b ∷ []) (37 ∷ hex_digit (b / 16) ∷ hex_digit (b % 16) ∷ [])) ≡ true
    by true e = and_from _ _ (plain-visible b e) refl
    by false e = and_from _ _ refl (and_from _ _ (digit-visible (b / 16) (omega (arith, low))) (and_from _ _ (digit-visible (b % 16) (omega arith)) refl))

pub all-visible : written_words_are_visible
all-visible [] all = refl
all-visible (b ∷ bytes) all = visible-append (encoded_byte b) (encoded bytes) (byte-visible b all.0) (all-visible bytes all.1)

-- ---- a line of written words

is_space : ℕ → Bool
is_space b = nat_eq b 32

no-space : (b : ℕ) → is_visible b ≡ true → nat_eq b 32 ≡ false
no-space b e = let parts = and_parts (nat_le 33 b) (nat_le b 126) e in grind (arith, nat_tests)

one-part : (xs : List ℕ) → list_all is_visible xs ≡ true → words_of xs ≡ xs ∷ []
one-part [] all = refl
one-part (x ∷ xs) all =
    let parts = and_parts _ _ all in
    slice_split-cons_no (λ b. nat_eq b 32) x xs (no-space x parts.0) ∙ ap (onto_first x) (one-part xs parts.1)

first-part : (xs ys : List ℕ) → list_all is_visible xs ≡ true → words_of (xs ++ 32 ∷ ys) ≡ xs ∷ words_of ys
first-part [] ys all = refl
first-part (x ∷ xs) ys all =
    let parts = and_parts _ _ all in
    slice_split-cons_no (λ b. nat_eq b 32) x (xs ++ 32 ∷ ys) (no-space x parts.0) ∙ ap (onto_first x) (first-part xs ys parts.1)

some-length : (b : ℕ) (bytes : List ℕ) → 0 < length (encoded (b ∷ bytes))
some-length b bytes = by (is_plain_byte b)
  where
    by : (c : Bool) → 0 < length (cond c (b ∷ []) (37 ∷ hex_digit (b / 16) ∷ hex_digit (b % 16) ∷ []) ++ encoded bytes)
    by true = omega arith
    by false = omega arith

said-back : (word : List ℕ) → CanBeWord word → word_said (encoded word) ≡ Some word
said-back [] can = let none : 0 < 0 = can.0 in absurd (omega (arith, none))
said-back (b ∷ bytes) can =
    let l : nat_lt 0 (length (encoded (b ∷ bytes))) ≡ true = (let n = some-length b bytes in grind (arith, nat_tests)) in
    ap (λ t. cond t (decoded (encoded (b ∷ bytes))) None) l ∙ any-bytes (b ∷ bytes) can.1

pub lines-back : written_lines_are_read
lines-back word [] all =
    ap words_said (one-part (encoded word) (all-visible word all.0.1)) ∙ ap (λ w. word_before w (Some [])) (said-back word all.0)
lines-back word (next ∷ words) all =
    ap words_said (first-part (encoded word) (join_with_byte 32 (map encoded (next ∷ words))) (all-visible word all.0.1))
    ∙ (λ i. word_before (said-back word all.0 i) (lines-back next words all.1 i))
