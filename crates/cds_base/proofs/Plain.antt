-- Values of letters, digits and a few marks, which stand for themselves where they are escaped; the digits of numbers among
-- them; and printed texts.
use Rattle.std.proofs.Common.{◌≡◌, ◌==◌, ℕ, ◌+◌, ◌*◌, ◌/◌, ◌%◌, ◌^◌, ◌<◌, ◌≤◌, nat_lt, Bool, true, false, ◌&&◌, ◌||◌, cond, Some, None, List, [], ◌∷◌, ◌++◌, refl, sym, ap, ◌∙◌, arith, encode_utf8, encode_utf8_all}
use Rattle.std.specs.List.{list_all}
use Rattle.std.specs.Fmt.{decimal}
use Rattle.std.specs.Char.{is_digit, digit_value}
use Rattle.std.proofs.lemmas.Bool.Decides.{nat_tests}
use Rattle.std.proofs.lemmas.Fmt.{decimal_by_steps}
use Rattle.std.proofs.lemmas.Grind.{flat_map-append}
use Rattle.std.proofs.lemmas.Str.{encode_ascii, digit_value_digit}
use Rattle.cds_base.specs.Characters.{is_allowed, AreAllowed}
use Rattle.cds_base.specs.Escape.{escaped, escaped_byte}
use Rattle.cds_base.specs.Number.{value_in, is_number_in, number_below}
use Rattle.cds_base.proofs.Numbers.{value_in-push}

pub and-both : (s t : Bool) → s ≡ true → t ≡ true → (s && t) ≡ true
and-both s t e d = grind arith

pub and-first : (s t : Bool) → (s && t) ≡ true → s ≡ true
and-first s t e = grind arith

pub and-second : (s t : Bool) → (s && t) ≡ true → t ≡ true
and-second s t e = grind arith

-- `*`, `-`, `.`, `/`, the digits, `:`, `;`, `@`, letters and a few marks between them
abbrev pub is_plain : ℕ → Bool
is_plain b = nat_lt 41 b && nat_lt b 60 || nat_lt 63 b && nat_lt b 123

abbrev pub ArePlain : List ℕ → Type 0
ArePlain text = list_all is_plain text ≡ true

plain-range : (b : ℕ) → is_plain b ≡ true → (41 < b) × (b < 123)
plain-range b e = (grind (arith, nat_tests), grind (arith, nat_tests))

plain-not : (b c : ℕ) → is_plain b ≡ true → is_plain c ≡ false → (b == c) ≡ false
plain-not b c e d = by (b == c) refl where
  by : (t : Bool) → (b == c) ≡ t → t ≡ false
  by true f = let same : b ≡ c = grind (arith, nat_tests) in let no : true ≡ false = sym e ∙ ap is_plain same ∙ d in cc
  by false f = refl

pub plain-stays : (b : ℕ) → is_plain b ≡ true → escaped_byte b ≡ b ∷ []
plain-stays b e = rw (plain-not b 38 e refl, plain-not b 60 e refl, plain-not b 62 e refl, plain-not b 34 e refl, plain-not b 39 e refl, plain-not b 9 e refl, plain-not b 10 e refl, plain-not b 13 e refl) refl

plain-allowed : (b : ℕ) → is_plain b ≡ true → is_allowed b ≡ true
plain-allowed b e = grind (arith, nat_tests)

pub escaped-plain : (text : List ℕ) → ArePlain text → escaped text ≡ text
escaped-plain [] e = refl
escaped-plain (b ∷ rest) e =
    ap (λ x. x ++ escaped rest) (plain-stays b (and-first (is_plain b) (list_all is_plain rest) e))
    ∙ ap (λ x. b ∷ x) (escaped-plain rest (and-second (is_plain b) (list_all is_plain rest) e))

all-allowed : (text : List ℕ) → ArePlain text → list_all is_allowed text ≡ true
all-allowed [] e = refl
all-allowed (b ∷ rest) e =
    ap (λ t. t && list_all is_allowed rest) (plain-allowed b (and-first (is_plain b) (list_all is_plain rest) e))
    ∙ all-allowed rest (and-second (is_plain b) (list_all is_plain rest) e)

all-ascii : (text : List ℕ) → ArePlain text → encode_utf8_all text ≡ text
all-ascii [] e = refl
all-ascii (b ∷ rest) e =
    ap (λ x. x ++ encode_utf8_all rest) (ascii b (and-first (is_plain b) (list_all is_plain rest) e))
    ∙ ap (λ x. b ∷ x) (all-ascii rest (and-second (is_plain b) (list_all is_plain rest) e))
  where
    ascii : (b : ℕ) → is_plain b ≡ true → encode_utf8 b ≡ b ∷ []
    ascii b e = encode_ascii b (omega (arith, (plain-range b e).1))

pub allowed-plain : (text : List ℕ) → ArePlain text → AreAllowed text
allowed-plain text e = (text, all-allowed text e, all-ascii text e)

pub plain-append : (a b : List ℕ) → ArePlain a → ArePlain b → ArePlain (a ++ b)
plain-append [] b e d = d
plain-append (x ∷ a) b e d =
    and-both (is_plain x) (list_all is_plain (a ++ b)) (and-first (is_plain x) (list_all is_plain a) e) (plain-append a b (and-second (is_plain x) (list_all is_plain a) e) d)

-- allowed texts one behind the other
all-append : (a b : List ℕ) → list_all is_allowed a ≡ true → list_all is_allowed b ≡ true → list_all is_allowed (a ++ b) ≡ true
all-append [] b e d = d
all-append (x ∷ a) b e d =
    and-both (is_allowed x) (list_all is_allowed (a ++ b)) (and-first (is_allowed x) (list_all is_allowed a) e) (all-append a b (and-second (is_allowed x) (list_all is_allowed a) e) d)

encoded-append : (a b : List ℕ) → encode_utf8_all (a ++ b) ≡ encode_utf8_all a ++ encode_utf8_all b
encoded-append a b = flat_map-append encode_utf8 a b

pub allowed-append : (a b : List ℕ) → AreAllowed a → AreAllowed b → AreAllowed (a ++ b)
allowed-append a b (cs, all, are) (ds, both, same) =
    (cs ++ ds, all-append cs ds all both, encoded-append cs ds ∙ ap (λ x. x ++ encode_utf8_all ds) are ∙ ap (λ x. a ++ x) same)

-- digits
pub record Digits (n : ℕ) (ds : List ℕ) : Type 0 where
  pub plain : ArePlain ds
  pub digits : list_all (λ byte. is_digit byte 10) ds ≡ true
  pub some : is_number_in 10 ds ≡ true
  pub value : value_in 10 ds ≡ n

glyph-value : (d : ℕ) → d < 10 → digit_value (48 + d) ≡ d
glyph-value d h = let e = digit_value_digit (48 + d) (omega arith, omega arith) in omega (arith, e)

pub glyph-digit : (d : ℕ) → d < 10 → is_digit (48 + d) 10 ≡ true
glyph-digit d h = below (digit_value (48 + d)) (omega (arith, h, glyph-value d h)) where
  below : (v : ℕ) → v < 10 → nat_lt v 10 ≡ true
  below v h = grind (arith, nat_tests)

glyph-plain : (d : ℕ) → d < 10 → is_plain (48 + d) ≡ true
glyph-plain d h = grind (arith, nat_tests)

pub all-push : (test : ℕ → Bool) (xs : List ℕ) (x : ℕ) → list_all test xs ≡ true → test x ≡ true → list_all test (xs ++ x ∷ []) ≡ true
all-push test [] x e d = ap (λ t. t && true) d
all-push test (y ∷ xs) x e d =
    ap (λ t. t && list_all test (xs ++ x ∷ [])) (and-first (test y) (list_all test xs) e)
    ∙ all-push test xs x (and-second (test y) (list_all test xs) e) d

pub number-all : (ds : List ℕ) (d : ℕ) → list_all (λ byte. is_digit byte 10) (ds ++ d ∷ []) ≡ true → is_number_in 10 (ds ++ d ∷ []) ≡ true
number-all [] d e = e
number-all (x ∷ ds) d e = e

pub digit-more : (n m d : ℕ) (ds : List ℕ) → d < 10 → m * 10 + d ≡ n → Digits m ds → Digits n (ds ++ ((48 + d) ∷ []))
digit-more n m d ds low sum is =
    let all = all-push (λ byte. is_digit byte 10) ds (48 + d) is.digits (glyph-digit d low) in
    record {
      plain = all-push is_plain ds (48 + d) is.plain (glyph-plain d low);
      digits = all;
      some = number-all ds (48 + d) all;
      value = value_in-push 10 ds (48 + d) ∙ put (value_in 10 ds) (digit_value (48 + d)) is.value (glyph-value d low);
    }
  where
    put : (v w : ℕ) → v ≡ m → w ≡ d → v * 10 + w ≡ n
    put v w e f = omega (arith, e, f, sum)

pub one-digit : (n : ℕ) → n < 10 → Digits n ((48 + n) ∷ [])
one-digit n h =
    let all = all-push (λ byte. is_digit byte 10) [] (48 + n) refl (glyph-digit n h) in
    record {
      plain = all-push is_plain [] (48 + n) refl (glyph-plain n h);
      digits = all;
      some = number-all [] (48 + n) all;
      value = value_in-push 10 [] (48 + n) ∙ omega (arith, glyph-value n h);
    }

pub decimal-digits : (n : ℕ) → n < 2 ^ 64 → Digits n (decimal n)
decimal-digits n h = decimal_by_steps Digits one-digit (λ n ds h d. digit-more n (n / 10) (n % 10) ds (omega arith) (omega arith) d) n h

pub digits-read : (limit n : ℕ) (ds : List ℕ) → n < limit → Digits n ds → number_below limit ds ≡ Some n
digits-read limit n ds h d =
    ap (λ t. cond (t && nat_lt (value_in 10 ds) limit) (Some (value_in 10 ds)) None) d.some
    ∙ ap (λ v. cond (nat_lt v limit) (Some v) None) d.value
    ∙ ap (λ t. cond t (Some n) None) (below n limit h)
  where
    below : (v m : ℕ) → v < m → nat_lt v m ≡ true
    below v m h = grind (arith, nat_tests)

pub decimal-read : (limit n : ℕ) → limit ≤ 2 ^ 64 → n < limit → number_below limit (decimal n) ≡ Some n
decimal-read limit n wide h = digits-read limit n (decimal n) h (decimal-digits n (omega (arith, h, wide)))

pub stays-decimal : (n : ℕ) → n < 2 ^ 32 → escaped (decimal n) ≡ decimal n
stays-decimal n h = escaped-plain (decimal n) (decimal-digits n (omega (arith, h))).plain

-- ---- printed texts: ASCII from the space on

abbrev pub is_printed : ℕ → Bool
is_printed b = nat_lt 31 b && nat_lt b 127

abbrev pub ArePrinted : List ℕ → Type 0
ArePrinted text = list_all is_printed text ≡ true

pub printed-append : (a b : List ℕ) → ArePrinted a → ArePrinted b → ArePrinted (a ++ b)
printed-append [] b h k = k
printed-append (x ∷ a) b h k =
    and-both (is_printed x) (list_all is_printed (a ++ b)) (and-first (is_printed x) (list_all is_printed a) h)
    (printed-append a b (and-second (is_printed x) (list_all is_printed a) h) k)

printed-one : (b : ℕ) → is_plain b ≡ true → is_printed b ≡ true
printed-one b e = grind (arith, nat_tests)

pub printed-plain : (text : List ℕ) → ArePlain text → ArePrinted text
printed-plain [] h = refl
printed-plain (b ∷ rest) h =
    and-both (is_printed b) (list_all is_printed rest) (printed-one b (and-first (is_plain b) (list_all is_plain rest) h))
    (printed-plain rest (and-second (is_plain b) (list_all is_plain rest) h))

pub printed-decimal : (n : ℕ) → n < 2 ^ 32 → ArePrinted (decimal n)
printed-decimal n h = printed-plain (decimal n) (decimal-digits n (omega (arith, h))).plain

printed-allowed : (text : List ℕ) → ArePrinted text → list_all is_allowed text ≡ true
printed-allowed [] h = refl
printed-allowed (b ∷ rest) h =
    and-both (is_allowed b) (list_all is_allowed rest) (one b (and-first (is_printed b) (list_all is_printed rest) h))
    (printed-allowed rest (and-second (is_printed b) (list_all is_printed rest) h))
  where
    one : (b : ℕ) → is_printed b ≡ true → is_allowed b ≡ true
    one b e = grind (arith, nat_tests)

printed-ascii : (text : List ℕ) → ArePrinted text → encode_utf8_all text ≡ text
printed-ascii [] h = refl
printed-ascii (b ∷ rest) h =
    ap (λ x. x ++ encode_utf8_all rest) (encode_ascii b (small b (and-first (is_printed b) (list_all is_printed rest) h)))
    ∙ ap (λ x. b ∷ x) (printed-ascii rest (and-second (is_printed b) (list_all is_printed rest) h))
  where
    small : (b : ℕ) → is_printed b ≡ true → b < 128
    small b e = grind (arith, nat_tests)

pub allowed-printed : (text : List ℕ) → ArePrinted text → AreAllowed text
allowed-printed text h = (text, printed-allowed text h, printed-ascii text h)
