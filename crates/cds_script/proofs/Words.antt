-- What the words of a line stand for.
use Rattle.std.proofs.Common.{◌≡◌, ℕ, ◌+◌, ◌*◌, ◌/◌, ◌%◌, ◌<◌, List, [], ◌∷◌, ◌++◌, refl, sym, ap, ◌∙◌, arith, length, ◌==◌, Option, Some, None, Bool, true, false, not, cond, append_assoc}
use Rattle.std.specs.Prelude.{nat_lt, nat_eq}
use Rattle.std.specs.Str.{IsUtf8, is_utf8}
use Rattle.std.proofs.lemmas.Str.{IsUtf8-from_is_utf8}
use Rattle.std.proofs.lemmas.Bool.{and_parts, eqb-true}
use Rattle.std.proofs.lemmas.Bool.Decides.{nat_tests}
use Rattle.std.proofs.lemmas.List.{append-nil}
use Rattle.cds_script.specs.Word.{is_plain_byte, digit_value, escaped_byte, byte_before, word_before, decoded, hex_digit, encoded, any_bytes_can_be_written, plain_words_stand_for_themselves}

-- bytes that were read, before those that the rest stands for
abbrev pub joined : {X : Type 0} → List X → Option (List X) → Option (List X)
joined read None = None
joined read (Some more) = Some (read ++ more)

pub joined-one : (word : List ℕ) (b : ℕ) (o : Option (List ℕ)) → joined word (byte_before (Some b) o) ≡ joined (word ++ b ∷ []) o
joined-one word b None = refl
joined-one word b (Some more) = ap Some (sym (append_assoc word (b ∷ []) more))

pub joined-word : (words : List (List ℕ)) (word : List ℕ) (o : Option (List (List ℕ))) → joined words (word_before (Some word) o) ≡ joined (words ++ word ∷ []) o
joined-word words word None = refl
joined-word words word (Some more) = ap Some (sym (append_assoc words (word ∷ []) more))

pub joined-nothing : {X : Type 0} (o : Option (List X)) → joined [] o ≡ o
joined-nothing None = refl
joined-nothing (Some more) = refl

pub joined-all : {X : Type 0} (read : List X) → joined read (Some []) ≡ Some read
joined-all read = ap Some (append-nil read)

pub nothing-left : (rest : List ℕ) → (length rest == 0) ≡ true → rest ≡ []
nothing-left [] e = refl
nothing-left (b ∷ rest) e = let l : length (b ∷ rest) ≡ 0 = eqb-true (length (b ∷ rest)) 0 e in let none : ⊥ = omega (arith, l) in absurd none

-- ---- text

pub no-text : (word : List ℕ) → (IsUtf8 word → ⊥) → is_utf8 word ≡ false
no-text word bad = by (is_utf8 word) refl
  where
    by : (b : Bool) → is_utf8 word ≡ b → b ≡ false
    by true e = absurd (bad (IsUtf8-from_is_utf8 word e))
    by false e = refl

-- ---- one byte

plain-no_escape : (b : ℕ) → is_plain_byte b ≡ true → nat_eq b 37 ≡ false
plain-no_escape b e = by (nat_eq b 37) (and_parts _ _ e).1
  where
    by : (c : Bool) → not c ≡ true → c ≡ false
    by true f = absurd (cc)
    by false f = refl

pub plain-first : (b : ℕ) (rest : List ℕ) → is_plain_byte b ≡ true → decoded (b ∷ rest) ≡ byte_before (Some b) (decoded rest)
plain-first b [] e = ap (λ c. byte_before (cond c (Some b) None) (Some [])) e
plain-first b (c ∷ []) e = ap (λ d. byte_before (cond d (Some b) None) (decoded (c ∷ []))) e
plain-first b (c ∷ d ∷ rest) e = λ i.
    cond (plain-no_escape b e i) (byte_before (escaped_byte (digit_value c) (digit_value d)) (decoded rest))
    (byte_before (cond (e i) (Some b) None) (decoded (c ∷ d ∷ rest)))

pub plain_words-stand : plain_words_stand_for_themselves
plain_words-stand [] e = refl
plain_words-stand (b ∷ rest) e =
    let all = and_parts _ _ e in
    plain-first b rest all.0 ∙ ap (byte_before (Some b)) (plain_words-stand rest all.1)

pub digit-back : (n : ℕ) → n < 16 → digit_value (hex_digit n) ≡ Some n
digit-back n low = by (nat_lt n 10) refl
  where
    by : (b : Bool) → nat_lt n 10 ≡ b → digit_value (cond b (48 + n) (55 + n)) ≡ Some n
    by true e = grind (arith, nat_tests)
    by false e = grind (arith, nat_tests)

escaped-back : (b : ℕ) → b < 256 → escaped_byte (digit_value (hex_digit (b / 16))) (digit_value (hex_digit (b % 16))) ≡ Some b
escaped-back b low =
    (λ i. escaped_byte (digit-back (b / 16) (omega (arith, low)) i) (digit-back (b % 16) (omega arith) i))
    ∙ (let e : 16 * (b / 16) + b % 16 ≡ b = omega arith in ap Some e)

pub any-bytes : any_bytes_can_be_written
any-bytes [] all = refl
any-bytes (b ∷ bytes) all = by (is_plain_byte b) refl (any-bytes bytes all.1)
  where
    by : (c : Bool) → is_plain_byte b ≡ c → decoded (encoded bytes) ≡ Some bytes →
        decoded (cond c (b ∷ []) (37 ∷ hex_digit (b / 16) ∷ hex_digit (b % 16) ∷ []) ++ encoded bytes) ≡ Some (b ∷ bytes)
    by true e r = plain-first b (encoded bytes) e ∙ ap (byte_before (Some b)) r
    by false e r = λ i. byte_before (escaped-back b all.0 i) (r i)

-- ---- what is no word

pub none-plain : (b : ℕ) (rest : List ℕ) → is_plain_byte b ≡ false → nat_eq b 37 ≡ false → decoded (b ∷ rest) ≡ None
none-plain b [] e f = ap (λ c. byte_before (cond c (Some b) None) (Some [])) e
none-plain b (c ∷ []) e f = ap (λ d. byte_before (cond d (Some b) None) (decoded (c ∷ []))) e
none-plain b (c ∷ d ∷ rest) e f = λ i.
    cond (f i) (byte_before (escaped_byte (digit_value c) (digit_value d)) (decoded rest)) (byte_before (cond (e i) (Some b) None) (decoded (c ∷ d ∷ rest)))
