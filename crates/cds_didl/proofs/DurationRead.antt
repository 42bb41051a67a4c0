-- A duration that is written is read.
use Rattle.std.proofs.Common.{◌≡◌, ◌==◌, ℕ, ◌+◌, ◌*◌, ◌/◌, ◌%◌, ◌^◌, ◌<◌, ◌≤◌, nat_lt, Bool, true, false, ◌&&◌, cond, Option, Some, None, List, [], ◌∷◌, ◌++◌, codes, length, take, drop, refl, sym, ap, ◌∙◌, arith, append_assoc}
use Rattle.std.specs.List.{list_all, position_from}
use Rattle.std.specs.Fmt.{decimal}
use Rattle.std.specs.Char.{is_digit, is_ascii_digit}
use Rattle.std.specs.Option.{option_and_then, option_map}
use Rattle.std.proofs.Math.Seq.{drop-append-add}
use Rattle.std.proofs.lemmas.Bool.Decides.{nat_tests}
use Rattle.std.proofs.lemmas.Fmt.{decimal_digit, decimal_step}
use Rattle.std.proofs.lemmas.Iterator.Adapters.{position_from-zero}
use Rattle.cds_base.specs.Number.{number_below}
use Rattle.cds_object.specs.Fragment.{two_digits, three_digits, seconds_text, duration_text}
use Rattle.cds_didl.specs.Duration.{parts_at, cut_at, where_below, sixtieth, scaled, thousandths, with_point, seconds_in, seconds_read, duration_read}
use Rattle.cds_base.proofs.Plain.{and-first, and-second, is_plain, ArePlain, plain-append, Digits, one-digit, digit-more, decimal-digits, digits-read}

-- a text is cut at the first byte of a kind
abbrev Lacks : ℕ → List ℕ → Type 0
Lacks byte [] = Unit {0}
Lacks byte (b ∷ rest) = ((b == byte) ≡ false) × Lacks byte rest

same-byte : (byte : ℕ) → (byte == byte) ≡ true
same-byte byte = grind (arith, nat_tests)

found-from : (byte at : ℕ) (front back : List ℕ) → Lacks byte front → position_from (λ b. b == byte) at (front ++ byte ∷ back) ≡ Some (at + length front)
found-from byte at [] back none = ap (λ t. cond t (Some at) (position_from (λ b. b == byte) (at + 1) back)) (same-byte byte) ∙ ap Some (omega arith)
found-from byte at (b ∷ front) back none =
    ap (λ t. cond t (Some at) (position_from (λ b. b == byte) (at + 1) (front ++ byte ∷ back))) none.0
    ∙ found-from byte (at + 1) front back none.1 ∙ ap Some (omega arith)

take-front : (front back : List ℕ) → take (length front) (front ++ back) ≡ front
take-front [] back = refl
take-front (b ∷ front) back = ap (λ xs. b ∷ xs) (take-front front back)

cut : (byte : ℕ) (front back : List ℕ) → Lacks byte front → cut_at byte (front ++ byte ∷ back) ≡ Some (front, back)
cut byte front back none =
    ap (parts_at (front ++ byte ∷ back)) (position_from-zero (λ b. b == byte) (front ++ byte ∷ back) ∙ found-from byte 0 front back none ∙ ap Some from-none)
    ∙ ap (λ x. Some (x, drop (length front + 1) (front ++ byte ∷ back))) (take-front front (byte ∷ back))
    ∙ ap (λ x. Some (front, x)) (drop-append-add front (byte ∷ back) 1)
  where
    from-none : 0 + length front ≡ length front
    from-none = omega arith

-- no digit is a mark
abbrev is_ten : ℕ → Bool
is_ten byte = is_digit byte 10

digit-not : (byte b : ℕ) → is_ten byte ≡ false → is_ten b ≡ true → (b == byte) ≡ false
digit-not byte b mark is = by (b == byte) refl where
  by : (t : Bool) → (b == byte) ≡ t → t ≡ false
  by true f = let same : b ≡ byte = grind (arith, nat_tests) in let none : true ≡ false = sym is ∙ ap is_ten same ∙ mark in cc
  by false f = refl

digits-lack : (byte : ℕ) (ds : List ℕ) → is_ten byte ≡ false → list_all is_ten ds ≡ true → Lacks byte ds
digits-lack byte [] mark all = tt
digits-lack byte (b ∷ ds) mark all =
    (digit-not byte b mark (and-first (is_ten b) (list_all is_ten ds) all), digits-lack byte ds mark (and-second (is_ten b) (list_all is_ten ds) all))

-- numbers in two digits and in three
below : (v m : ℕ) → v < m → nat_lt v m ≡ true
below v m h = grind (arith, nat_tests)

above : (v m : ℕ) → m ≤ v → nat_lt v m ≡ false
above v m h = grind (arith, nat_tests)

abbrev two_of : ℕ → List ℕ
two_of n = (48 + n / 10) ∷ (48 + n % 10) ∷ []

abbrev three_of : ℕ → List ℕ
three_of n = (48 + n / 100) ∷ (48 + n / 10 % 10) ∷ (48 + n % 10) ∷ []

abbrev zero_before : Bool → List ℕ → List ℕ
zero_before b text = cond b (codes "0") [] ++ text

two-is : (n : ℕ) → n < 100 → two_digits n ≡ two_of n
two-is n h = by (nat_lt n 10) refl where
  small : n < 10 → zero_before true (decimal n) ≡ two_of n
  small low = ap (λ xs. 48 ∷ xs) (decimal_digit n low) ∙ ap (λ x. 48 ∷ x ∷ []) (omega arith) ∙ ap (λ x. x ∷ (48 + n % 10) ∷ []) (omega arith)

  big : 10 ≤ n → zero_before false (decimal n) ≡ two_of n
  big high = decimal_step n high (omega arith) ∙ ap (λ xs. xs ++ (48 + n % 10) ∷ []) (decimal_digit (n / 10) (omega arith))

  by : (t : Bool) → nat_lt n 10 ≡ t → zero_before (nat_lt n 10) (decimal n) ≡ two_of n
  by true e = ap (λ t. zero_before t (decimal n)) e ∙ small (grind (arith, nat_tests))
  by false e = ap (λ t. zero_before t (decimal n)) e ∙ big (grind (arith, nat_tests))

three-is : (n : ℕ) → n < 1000 → three_digits n ≡ three_of n
three-is n h = by (nat_lt n 100) refl where
  small : n < 100 → zero_before true (two_digits n) ≡ three_of n
  small low = ap (λ xs. 48 ∷ xs) (two-is n low) ∙ ap (λ x. 48 ∷ (48 + x) ∷ (48 + n % 10) ∷ []) (omega arith) ∙ ap (λ x. x ∷ (48 + n / 10 % 10) ∷ (48 + n % 10) ∷ []) (omega arith)

  big : 100 ≤ n → zero_before false (two_digits n) ≡ three_of n
  big high =
      ap (λ t. zero_before t (decimal n)) (above n 10 (omega arith))
      ∙ decimal_step n (omega arith) (omega arith)
      ∙ ap (λ xs. xs ++ (48 + n % 10) ∷ []) (decimal_step (n / 10) (omega arith) (omega arith) ∙ ap (λ xs. xs ++ (48 + n / 10 % 10) ∷ []) (decimal_digit (n / 10 / 10) (omega arith)))
      ∙ ap (λ x. x ∷ (48 + n / 10 % 10) ∷ (48 + n % 10) ∷ []) (omega arith)

  by : (t : Bool) → nat_lt n 100 ≡ t → zero_before (nat_lt n 100) (two_digits n) ≡ three_of n
  by true e = ap (λ t. zero_before t (two_digits n)) e ∙ small (grind (arith, nat_tests))
  by false e = ap (λ t. zero_before t (two_digits n)) e ∙ big (grind (arith, nat_tests))

two-digits : (n : ℕ) → n < 100 → Digits n (two_of n)
two-digits n h = digit-more n (n / 10) (n % 10) ((48 + n / 10) ∷ []) (omega arith) (omega arith) (one-digit (n / 10) (omega arith))

three-digits : (n : ℕ) → n < 1000 → Digits n (three_of n)
three-digits n h =
    digit-more n (n / 10) (n % 10) ((48 + n / 100) ∷ (48 + n / 10 % 10) ∷ []) (omega arith) (omega arith)
    (digit-more (n / 10) (n / 100) (n / 10 % 10) ((48 + n / 100) ∷ []) (omega arith) (omega arith) (one-digit (n / 100) (omega arith)))

sixtieth-read : (n : ℕ) → n < 60 → sixtieth (two_of n) ≡ Some n
sixtieth-read n h = digits-read 60 n (two_of n) h (two-digits n (omega arith))

-- thousandths
ascii-all : (ds : List ℕ) → list_all is_ten ds ≡ true → list_all is_ascii_digit ds ≡ true
ascii-all [] e = refl
ascii-all (b ∷ ds) e =
    ap (λ t. t && list_all is_ascii_digit ds) (ascii b (and-first (is_ten b) (list_all is_ten ds) e)) ∙ ascii-all ds (and-second (is_ten b) (list_all is_ten ds) e)
  where
    ascii : (b : ℕ) → is_ten b ≡ true → is_ascii_digit b ≡ true
    ascii b e = grind (arith, nat_tests)

thousandths-read : (n : ℕ) → n < 1000 → thousandths (three_of n) ≡ Some n
thousandths-read n h =
    let d = three-digits n h in
    ap (λ t. cond t (option_map (scaled 3) (number_below (2 ^ 32) (three_of n))) None) (ascii-all (three_of n) d.digits)
    ∙ ap (option_map (scaled 3)) (digits-read (2 ^ 32) n (three_of n) (omega (arith, h)) d)
    ∙ ap Some (omega arith)

-- the seconds, behind which there is a point
seconds-is : (ms : ℕ) → seconds_text ms ≡ two_of (ms / 1000 % 60) ++ 46 ∷ three_of (ms % 1000)
unfolding seconds_text
seconds-is ms =
    ap (λ x. (x ++ codes ".") ++ three_digits (ms % 1000)) (two-is (ms / 1000 % 60) (omega arith))
    ∙ ap (λ x. (two_of (ms / 1000 % 60) ++ codes ".") ++ x) (three-is (ms % 1000) (omega arith))

pub bind : {A B : Type 0} → (o : Option A) (a : A) (f : A → Option B) (r : Option B) → o ≡ Some a → f a ≡ r → option_and_then f o ≡ r
bind o a f r e d = ap (option_and_then f) e ∙ d

point-read : (s t : ℕ) → s < 60 → t < 1000 → with_point (two_of s, three_of t) ≡ Some (s * 1000 + t)
unfolding with_point
point-read s t low small =
    bind (sixtieth (two_of s)) s (λ seconds. option_and_then (λ thousand. Some (seconds * 1000 + thousand)) (thousandths (three_of t))) (Some (s * 1000 + t)) (sixtieth-read s low)
    (bind (thousandths (three_of t)) t (λ thousand. Some (s * 1000 + thousand)) (Some (s * 1000 + t)) (thousandths-read t small) refl)

seconds-so : (ms : ℕ) → seconds_read (seconds_text ms) ≡ Some (ms / 1000 % 60 * 1000 + ms % 1000)
seconds-so ms =
    let s : ℕ = ms / 1000 % 60 in
    let t : ℕ = ms % 1000 in
    let low : s < 60 = omega arith in
    let d = two-digits s (omega (arith, low)) in
    ap seconds_read (seconds-is ms)
    ∙ ap (seconds_in (two_of s ++ 46 ∷ three_of t)) (cut 46 (two_of s) (three_of t) (digits-lack 46 (two_of s) refl d.digits))
    ∙ point-read s t low (omega arith)

-- the whole: hours, minutes and what is behind them
duration-is : (ms : ℕ) → duration_text ms ≡ decimal (ms / 3600000) ++ 58 ∷ (two_of (ms / 60000 % 60) ++ 58 ∷ seconds_text ms)
unfolding duration_text
duration-is ms =
    let h = decimal (ms / 3600000) in
    let m = two_of (ms / 60000 % 60) in
    ap (λ x. (((h ++ codes ":") ++ x) ++ codes ":") ++ seconds_text ms) (two-is (ms / 60000 % 60) (omega arith))
    ∙ append_assoc ((h ++ codes ":") ++ m) (codes ":") (seconds_text ms)
    ∙ append_assoc (h ++ codes ":") m (58 ∷ seconds_text ms)
    ∙ append_assoc h (codes ":") (m ++ 58 ∷ seconds_text ms)

all-of-it : (ms : ℕ) → ms / 3600000 * 3600000 + (ms / 60000 % 60 * 60000 + (ms / 1000 % 60 * 1000 + ms % 1000)) ≡ ms
all-of-it ms = omega arith

abbrev parts_read : List ℕ → List ℕ × List ℕ → List ℕ × List ℕ → Option ℕ
parts_read text first second =
    option_and_then (λ hours. option_and_then (λ minutes. option_and_then (λ milliseconds. where_below (2 ^ 64) (hours * 3600000 + (minutes * 60000 + milliseconds))) (seconds_read second.1)) (sixtieth second.0))
    (number_below (2 ^ 64) first.0)

pub duration-read : (ms : ℕ) → ms < 2 ^ 64 → duration_read (duration_text ms) ≡ Some ms
unfolding duration_read
duration-read ms h =
    let hours : ℕ = ms / 3600000 in
    let minutes : ℕ = ms / 60000 % 60 in
    let milliseconds : ℕ = ms / 1000 % 60 * 1000 + ms % 1000 in
    let back = two_of minutes ++ 58 ∷ seconds_text ms in
    let few : hours < 2 ^ 64 = omega (arith, h) in
    let low : minutes < 60 = omega arith in
    let d = decimal-digits hours few in
    let e = two-digits minutes (omega (arith, low)) in
    ap duration_read (duration-is ms)
    ∙ bind (cut_at 58 (decimal hours ++ 58 ∷ back)) (decimal hours, back) (λ first. option_and_then (λ second. parts_read (duration_text ms) first second) (cut_at 58 first.1)) (Some ms)
    (cut 58 (decimal hours) back (digits-lack 58 (decimal hours) refl d.digits))
    (bind (cut_at 58 back) (two_of minutes, seconds_text ms) (λ second. parts_read (duration_text ms) (decimal hours, back) second) (Some ms)
    (cut 58 (two_of minutes) (seconds_text ms) (digits-lack 58 (two_of minutes) refl e.digits))
    (bind (number_below (2 ^ 64) (decimal hours)) hours
    (λ hours. option_and_then (λ minutes. option_and_then (λ milliseconds. where_below (2 ^ 64) (hours * 3600000 + (minutes * 60000 + milliseconds))) (seconds_read (seconds_text ms))) (sixtieth (two_of minutes))) (Some ms)
    (digits-read (2 ^ 64) hours (decimal hours) few d)
    (bind (sixtieth (two_of minutes)) minutes (λ minutes. option_and_then (λ milliseconds. where_below (2 ^ 64) (hours * 3600000 + (minutes * 60000 + milliseconds))) (seconds_read (seconds_text ms))) (Some ms)
    (sixtieth-read minutes low)
    (bind (seconds_read (seconds_text ms)) milliseconds (λ milliseconds. where_below (2 ^ 64) (hours * 3600000 + (minutes * 60000 + milliseconds))) (Some ms)
    (seconds-so ms)
    (ap (where_below (2 ^ 64)) (all-of-it ms) ∙ ap (λ t. cond t (Some ms) None) (below ms (2 ^ 64) h))))))

pub duration-plain : (ms : ℕ) → ms < 2 ^ 64 → ArePlain (duration_text ms)
duration-plain ms h =
    let hours : ℕ = ms / 3600000 in
    let minutes : ℕ = ms / 60000 % 60 in
    let s : ℕ = ms / 1000 % 60 in
    let t : ℕ = ms % 1000 in
    let low : minutes < 60 = omega arith in
    let few : s < 60 = omega arith in
    let last : ArePlain (seconds_text ms) =
    ap (list_all is_plain) (seconds-is ms) ∙ plain-append (two_of s) (46 ∷ three_of t) (two-digits s (omega (arith, few))).plain (plain-append (codes ".") (three_of t) refl (three-digits t (omega arith)).plain) in
    ap (list_all is_plain) (duration-is ms)
    ∙ plain-append (decimal hours) (58 ∷ (two_of minutes ++ 58 ∷ seconds_text ms)) (decimal-digits hours (omega (arith, h))).plain
    (plain-append (codes ":") (two_of minutes ++ 58 ∷ seconds_text ms) refl
    (plain-append (two_of minutes) (58 ∷ seconds_text ms) (two-digits minutes (omega (arith, low))).plain (plain-append (codes ":") (seconds_text ms) refl last)))
