-- Words of a line: plain bytes and numbers in decimal, and what they are read as.
use Rattle.std.proofs.Common.{◌≡◌, ◌+◌, ◌%◌, ◌^◌, ◌<◌, ◌≤◌, ◌==◌, ℕ, zero, suc, Bool, true, false, cond, not, ◌&&◌, ◌||◌, nat_eq, nat_lt, nat_le, List, [], ◌∷◌, ◌++◌, length, get_or, Option, Some, None, Result, Ok, Err, refl, ap, ◌∙◌, arith, eq-eqb}
use Rattle.std.specs.List.{list_all, list_any, onto_first, slice_split}
use Rattle.std.specs.Fmt.{decimal}
use Rattle.std.specs.Str.{IsAscii, is_utf8}
use Rattle.std.specs.Result.{result_ok}
use Rattle.std.proofs.lemmas.Bool.{and_parts, and_from, not_from_false, not-true}
use Rattle.std.proofs.lemmas.Bool.Decides.{nat_tests}
use Rattle.std.proofs.lemmas.Fmt.{decimal_by_steps, decimal_digit, decimal_nonempty, first_decimal, length-decimal-le}
use Rattle.std.proofs.lemmas.List.Splits.{slice_split-cons_no, slice_split-cons_yes}
use Rattle.std.proofs.lemmas.Str.{IsUtf8-from_ascii, is_utf8-from_IsUtf8}
use Rattle.cds_base.specs.Number.{has_leading_zero, number_below, plain_below}
use Rattle.cds_base.proofs.Plain.{all-push, decimal-read}
use Rattle.cds_object.specs.Path.{bad_name_at, is_bad_name, path_read}
use Rattle.cds_script.specs.Lines.{words_of}
use Rattle.cds_script.specs.Script.{path_said}
use Rattle.cds_script.specs.Word.{is_plain_byte, decoded, word_said, words_said, word_before}
use Rattle.cds_script.proofs.Words.{plain_words-stand}

-- ---- digits

abbrev pub is_figure : ℕ → Bool
is_figure b = nat_le 48 b && nat_le b 57

figure-one : (d : ℕ) → d < 10 → is_figure (48 + d) ≡ true
figure-one d low = grind (arith, nat_tests)

figures : (n : ℕ) → n < 2 ^ 64 → list_all is_figure (decimal n) ≡ true
figures n low =
    decimal_by_steps (λ m ds. list_all is_figure ds ≡ true)
    (λ m small. and_from (is_figure (48 + m)) true (figure-one m small) refl)
    (λ m ds large so_far. all-push is_figure ds (48 + m % 10) so_far (figure-one (m % 10) (omega arith)))
    n low

all-weaker : (p q : ℕ → Bool) → ((b : ℕ) → p b ≡ true → q b ≡ true) → (xs : List ℕ) → list_all p xs ≡ true → list_all q xs ≡ true
all-weaker p q so [] all = refl
all-weaker p q so (x ∷ xs) all = let parts = and_parts (p x) (list_all p xs) all in and_from (q x) (list_all q xs) (so x parts.0) (all-weaker p q so xs parts.1)

pub all-join : (q : ℕ → Bool) (xs ys : List ℕ) → list_all q xs ≡ true → list_all q ys ≡ true → list_all q (xs ++ ys) ≡ true
all-join q [] ys all more = more
all-join q (x ∷ xs) ys all more = let parts = and_parts (q x) (list_all q xs) all in and_from (q x) (list_all q (xs ++ ys)) parts.0 (all-join q xs ys parts.1 more)

-- not a byte
abbrev pub is_not : ℕ → ℕ → Bool
is_not c b = not (nat_eq b c)

figure-low : (c b : ℕ) → c < 48 → is_figure b ≡ true → is_not c b ≡ true
figure-low c b low is =
    let parts = and_parts (nat_le 48 b) (nat_le b 57) is in
    let other : nat_eq b c ≡ false = grind (arith, nat_tests) in
    not_from_false (nat_eq b c) other

figure-plain : (b : ℕ) → is_figure b ≡ true → is_plain_byte b ≡ true
figure-plain b is = let parts = and_parts (nat_le 48 b) (nat_le b 57) is in grind (arith, nat_tests)

figure-ascii : (b : ℕ) → is_figure b ≡ true → nat_lt b 128 ≡ true
figure-ascii b is = let parts = and_parts (nat_le 48 b) (nat_le b 57) is in grind (arith, nat_tests)

module _ (n : ℕ) (low : n < 2 ^ 64) where
  pub decimal-not : (c : ℕ) → c < 48 → list_all (is_not c) (decimal n) ≡ true
  decimal-not c small = all-weaker is_figure (is_not c) (λ b is. figure-low c b small is) (decimal n) (figures n low)

  pub decimal-plain : list_all is_plain_byte (decimal n) ≡ true
  decimal-plain = all-weaker is_figure is_plain_byte figure-plain (decimal n) (figures n low)

  pub decimal-ascii : list_all (λ b. nat_lt b 128) (decimal n) ≡ true
  decimal-ascii = all-weaker is_figure (λ b. nat_lt b 128) figure-ascii (decimal n) (figures n low)

  pub decimal-short : length (decimal n) ≤ 20
  decimal-short = length-decimal-le 20 n (omega arith) (omega (arith, low)) low

-- ---- numbers are read back

leads : (ds : List ℕ) → 48 < get_or ds 0 0 → has_leading_zero ds ≡ false
leads [] more = refl
leads (x ∷ []) more = refl
leads (x ∷ y ∷ ds) more = at x more
  where
    at : (z : ℕ) → 48 < z → (z == 48) ≡ false
    at z above = grind (arith, nat_tests)

no-zero : (n : ℕ) → n < 2 ^ 64 → has_leading_zero (decimal n) ≡ false
no-zero zero low = ap has_leading_zero (decimal_digit 0 (omega arith))
no-zero (suc n) low = leads (decimal (suc n)) (first_decimal (suc n) (omega arith) low)

pub plain-read : (limit n : ℕ) → limit ≤ 2 ^ 64 → n < limit → plain_below limit (decimal n) ≡ Some n
plain-read limit n wide low =
    ap (λ (b : Bool). cond b None (number_below limit (decimal n))) (no-zero n (omega (arith, wide, low))) ∙ decimal-read limit n wide low

-- ---- parts between bytes

pub parts-one : (c : ℕ) (xs : List ℕ) → list_all (is_not c) xs ≡ true → slice_split (λ b. nat_eq b c) xs ≡ xs ∷ []
parts-one c [] all = refl
parts-one c (x ∷ xs) all =
    let parts = and_parts (is_not c x) (list_all (is_not c) xs) all in
    slice_split-cons_no (λ b. nat_eq b c) x xs (not-true (nat_eq x c) parts.0) ∙ ap (onto_first x) (parts-one c xs parts.1)

pub parts-more : (c : ℕ) (xs ys : List ℕ) → list_all (is_not c) xs ≡ true → slice_split (λ b. nat_eq b c) (xs ++ c ∷ ys) ≡ xs ∷ slice_split (λ b. nat_eq b c) ys
parts-more c [] ys all = slice_split-cons_yes (λ b. nat_eq b c) c ys (eq-eqb c c refl)
parts-more c (x ∷ xs) ys all =
    let parts = and_parts (is_not c x) (list_all (is_not c) xs) all in
    slice_split-cons_no (λ b. nat_eq b c) x (xs ++ c ∷ ys) (not-true (nat_eq x c) parts.0) ∙ ap (onto_first x) (parts-more c xs ys parts.1)

-- ---- words

-- a part of a line stands for a word
pub record Said (part word : List ℕ) : Type 0 where
  pub whole : list_all (is_not 32) part ≡ true
  pub said : word_said part ≡ Some word

some-part : (part : List ℕ) → 0 < length part → nat_lt 0 (length part) ≡ true
some-part part some = at (length part) some
  where
    at : (n : ℕ) → 0 < n → nat_lt 0 n ≡ true
    at n more = grind (arith, nat_tests)

plain-not_space : (b : ℕ) → is_plain_byte b ≡ true → is_not 32 b ≡ true
plain-not_space b is =
    let parts = and_parts (nat_le 33 b && nat_le b 126) (not (nat_eq b 37)) is in
    let more = and_parts (nat_le 33 b) (nat_le b 126) parts.0 in
    let other : nat_eq b 32 ≡ false = grind (arith, nat_tests) in
    not_from_false (nat_eq b 32) other

pub said-by : (part word : List ℕ) → 0 < length part → decoded part ≡ Some word → word_said part ≡ Some word
said-by part word some is = ap (λ (b : Bool). cond b (decoded part) None) (some-part part some) ∙ is

pub said-plain : (part : List ℕ) → 0 < length part → list_all is_plain_byte part ≡ true → Said part part
said-plain part some plain = record {
  whole = all-weaker is_plain_byte (is_not 32) plain-not_space part plain;
  said = said-by part part some (plain_words-stand part plain);
}

pub said-decimal : (n : ℕ) → n < 2 ^ 64 → Said (decimal n) (decimal n)
said-decimal n low = said-plain (decimal n) (decimal_nonempty n low) (decimal-plain n low)

pub line-one : (part word : List ℕ) → Said part word → words_said (words_of part) ≡ Some (word ∷ [])
line-one part word is = ap words_said (parts-one 32 part is.whole) ∙ ap (λ (o : Option (List ℕ)). word_before o (Some [])) is.said

pub line-more : (part word rest : List ℕ) (words : List (List ℕ)) → Said part word → words_said (words_of rest) ≡ Some words →
    words_said (words_of (part ++ 32 ∷ rest)) ≡ Some (word ∷ words)
line-more part word rest words is more =
    ap words_said (parts-more 32 part rest is.whole) ∙ (λ i. word_before (is.said i) (more i))

-- ---- paths

ascii-all : (xs : List ℕ) → list_all (λ b. nat_lt b 128) xs ≡ true → IsAscii xs
ascii-all [] all i = omega arith
ascii-all (x ∷ xs) all zero = let parts = and_parts (nat_lt x 128) (list_all (λ b. nat_lt b 128) xs) all in grind (arith, nat_tests)
ascii-all (x ∷ xs) all (suc i) = let parts = and_parts (nat_lt x 128) (list_all (λ b. nat_lt b 128) xs) all in ascii-all xs parts.1 i

pub is-text : (xs : List ℕ) → list_all (λ b. nat_lt b 128) xs ≡ true → is_utf8 xs ≡ true
is-text xs all = is_utf8-from_IsUtf8 xs (IsUtf8-from_ascii xs (ascii-all xs all))

abbrev names : List ℕ → List (List ℕ)
names text = slice_split (λ b. nat_eq b 47) text

read-by : (text : List ℕ) (bad : Option ℕ) (long : Bool) → bad ≡ None → long ≡ false →
    ◌≡◌ {A = Result (List (List ℕ)) ℕ} (elim bad [ Some at ↦ Err at | None ↦ cond long (Err 1024) (Ok (names text)) ]) (Ok (names text))
read-by text (Some at) long none short = absurd (cc)
read-by text None true none short = absurd (cc)
read-by text None false none short = refl

pub path-read : (text : List ℕ) (place : List (List ℕ)) → list_all (λ b. nat_lt b 128) text ≡ true → names text ≡ place → bad_name_at 0 0 place ≡ None →
    length text ≤ 1024 → path_said text ≡ Some place
path-read text place ascii is good short =
    let fits : nat_lt 1024 (length text) ≡ false = at (length text) short in
    let read : path_read text ≡ Ok (names text) = read-by text (bad_name_at 0 0 (names text)) (nat_lt 1024 (length text)) (ap (bad_name_at 0 0) is ∙ good) fits in
    ap (λ (b : Bool). cond b (result_ok (path_read text)) None) (is-text text ascii) ∙ ap result_ok read ∙ ap Some is
  where
    at : (n : ℕ) → n ≤ 1024 → nat_lt 1024 n ≡ false
    at n few = grind (arith, nat_tests)

none-zero : (xs : List ℕ) → list_all (is_not 0) xs ≡ true → list_any (λ b. nat_eq b 0) xs ≡ false
none-zero [] all = refl
none-zero (x ∷ xs) all =
    let parts = and_parts (is_not 0 x) (list_all (is_not 0) xs) all in
    λ i. not-true (nat_eq x 0) parts.0 i || none-zero xs parts.1 i

-- a name that begins with `f` or `t`
good-by : (e l p q z : Bool) → e ≡ false → l ≡ false → p ≡ false → q ≡ false → z ≡ false → (e || l || p || q || z) ≡ false
good-by e l p q z ee ll pp qq zz = λ i. ee i || ll i || pp i || qq i || zz i

some-name : (n : ℕ) → 0 < n → nat_eq n 0 ≡ false
some-name n some = grind (arith, nat_tests)

short-name : (n : ℕ) → n ≤ 255 → nat_lt 255 n ≡ false
short-name n few = grind (arith, nat_tests)

pub good-f : (rest : List ℕ) → length rest ≤ 254 → list_all (is_not 0) rest ≡ true → is_bad_name (102 ∷ rest) ≡ false
good-f rest few all =
    good-by _ _ _ _ _ (some-name (length (102 ∷ rest)) (omega arith)) (short-name (length (102 ∷ rest)) (omega (arith, few))) refl refl (none-zero (102 ∷ rest) all)

pub good-t : (rest : List ℕ) → length rest ≤ 254 → list_all (is_not 0) rest ≡ true → is_bad_name (116 ∷ rest) ≡ false
good-t rest few all =
    good-by _ _ _ _ _ (some-name (length (116 ∷ rest)) (omega arith)) (short-name (length (116 ∷ rest)) (omega (arith, few))) refl refl (none-zero (116 ∷ rest) all)
