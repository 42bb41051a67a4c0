-- Decimal numbers read as what they are.
use Rattle.std.proofs.Common.{◌≡◌, ℕ, ◌+◌, ◌*◌, ◌/◌, ◌%◌, ◌^◌, ◌<◌, ◌≤◌, nat_le, nat_lt, Bool, true, false, ◌&&◌, IsTrue, Ok, Err, List, [], ◌∷◌, ◌++◌, length, reverse, if◌then◌else◌, refl, ap, ◌∙◌, arith}
use Rattle.std.proofs.Common.{length-append}
use Rattle.std.specs.List.{list_all}
use Rattle.std.specs.Fmt.{decimal}
use Rattle.std.specs.Char.{is_digit, digit_value, is_ascii_digit}
use Rattle.std.proofs.lemmas.Bool.Decides.{nat_tests}
use Rattle.std.proofs.lemmas.Fmt.{decimal_digit, decimal_step}
use Rattle.std.proofs.lemmas.List.Elements.{All-head, All-nil, All-cons}
use Rattle.httparse.specs.Grammar.{AllPass, is_value_byte, is_ows, skip_ows}
use Rattle.httparse.proofs.TrimLemmas.{AllPass-reverse}
use Rattle.cds_base.specs.Number.{value_in, is_number_in}
use Rattle.cds_base.proofs.Plain.{and-first, and-second, decimal-digits as digits-of}
use Rattle.cds_http.specs.declared.error.HttpError.TheVariants.{BadLength, TooLong}
use Rattle.cds_http.specs.declared.framing.Framing.TheVariants.{Counted}
use Rattle.cds_http.specs.Framing.{counted_framing, body_limit}
use Rattle.cds_http.proofs.Cuts.{le_true}

-- digits and their number
pub record Digits (n : ℕ) (ds : List ℕ) : Type 0 where
  pub all : list_all (λ byte. is_digit byte 10) ds ≡ true
  pub some : is_number_in 10 ds ≡ true
  pub value : value_in 10 ds ≡ n
  pub plain : AllPass is_ascii_digit ds

digit-ascii : (b : ℕ) → is_digit b 10 ≡ true → IsTrue (is_ascii_digit b)
digit-ascii b e = grind (arith, nat_tests)

digits-ascii : (ds : List ℕ) → list_all (λ byte. is_digit byte 10) ds ≡ true → AllPass is_ascii_digit ds
digits-ascii [] e = All-nil (λ b. IsTrue (is_ascii_digit b))
digits-ascii (b ∷ ds) e =
    All-cons (λ b. IsTrue (is_ascii_digit b)) b ds
    (digit-ascii b (and-first (is_digit b 10) (list_all (λ byte. is_digit byte 10) ds) e))
    (digits-ascii ds (and-second (is_digit b 10) (list_all (λ byte. is_digit byte 10) ds) e))

pub decimal-digits : (n : ℕ) → n < 2 ^ 32 → Digits n (decimal n)
decimal-digits n h =
    let d = digits-of n (omega (arith, h)) in
    record { all = d.digits; some = d.some; value = d.value; plain = digits-ascii (decimal n) d.digits }

-- CONTENT-LENGTH as it is written
pub decimal-framing : (n : ℕ) → n ≤ body_limit → counted_framing (decimal n) ≡ Ok (Counted n)
decimal-framing n h =
    let d = decimal-digits n (omega (arith, h)) in
    ap (λ (t : Bool). if t then (if nat_le (value_in 10 (decimal n)) body_limit then Ok (Counted (value_in 10 (decimal n))) else Err TooLong) else Err BadLength) d.some
    ∙ ap (λ (v : ℕ). if nat_le v body_limit then Ok (Counted v) else Err TooLong) d.value
    ∙ ap (λ (t : Bool). if t then Ok (Counted n) else Err TooLong) (le_true n body_limit h)

digit_no_blank : (b : ℕ) → IsTrue (is_ascii_digit b) → is_ows b ≡ false
digit_no_blank b h = grind (arith, nat_tests)

pub digit_value_byte : (b : ℕ) → IsTrue (is_ascii_digit b) → IsTrue (is_value_byte b)
digit_value_byte b h = grind (arith, nat_tests)

no_blank : (ds : List ℕ) → AllPass is_ascii_digit ds → skip_ows ds ≡ ds
no_blank [] pass = refl
no_blank (d ∷ ds) pass =
    ap (λ (t : Bool). if t then skip_ows ds else d ∷ ds) (digit_no_blank d (All-head (λ b. IsTrue (is_ascii_digit b)) d ds pass))

pub no_front : (ds : List ℕ) → AllPass is_ascii_digit ds → skip_ows ds ≡ ds
no_front ds pass = no_blank ds pass

pub no_back : (ds : List ℕ) → AllPass is_ascii_digit ds → skip_ows (reverse ds) ≡ reverse ds
no_back ds pass = no_blank (reverse ds) (AllPass-reverse is_ascii_digit ds pass)

pub three_digits : (n : ℕ) → 100 ≤ n → n < 1000 → length (decimal n) ≡ 3
three_digits n low high =
    let tens = n / 10 in
    let hundreds = tens / 10 in
    let first = decimal_digit hundreds (omega (arith, high)) in
    let second = decimal_step tens (omega (arith, low)) (omega (arith, high)) in
    let third = decimal_step n (omega (arith, low)) (omega (arith, high)) in
    omega (
      arith,
      ap length third,
      ap length second,
      ap length first,
      length-append (decimal tens) ((48 + n % 10) ∷ []),
      length-append (decimal hundreds) ((48 + tens % 10) ∷ []),
    )
