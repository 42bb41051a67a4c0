-- Printed texts are allowed; numbers in digits are printed, stand for themselves in a text, and are read as what they are.
use Rattle.std.proofs.Common.{◌≡◌, ◌==◌, ℕ, ◌+◌, ◌-◌, ◌<◌, ◌^◌, nat_lt, Bool, true, false, cond, ◌&&◌, IsTrue, Some, None, List, [], ◌∷◌, ◌++◌, length, take, drop, reverse, encode_utf8_all, refl, sym, ap, ◌∙◌, arith, take_all}
use Rattle.std.specs.List.{list_all, prefix_len}
use Rattle.std.specs.Fmt.{decimal}
use Rattle.std.specs.Char.{is_ascii_digit}
use Rattle.std.proofs.lemmas.Bool.Decides.{nat_tests}
use Rattle.std.proofs.lemmas.List.Elements.{All-head, All-tail}
use Rattle.std.proofs.lemmas.Str.{encode_ascii}
use Rattle.httparse.specs.Grammar.{AllPass}
use Rattle.httparse.proofs.TrimLemmas.{AllPass-reverse}
use Rattle.cds_base.specs.Characters.{is_allowed, AreAllowed}
use Rattle.cds_base.specs.Escape.{escaped, escaped_byte}
use Rattle.cds_base.specs.Number.{value_in, number_below}
use Rattle.cds_base.proofs.Plain.{allowed-printed, decimal-digits, digits-read, printed-decimal}
use Rattle.cds_http.proofs.Numerals.{decimal-digits as numerals}
use Rattle.cds_soap.proofs.Naming.{both-true, true-both}
use Rattle.cds_soap.specs.Given.{is_space, without_back, trimmed, number_in}

-- ---- digits

abbrev IsDigit : ℕ → Type 0
IsDigit b = IsTrue (is_ascii_digit b)

digit-not : (b c : ℕ) → is_ascii_digit b ≡ true → is_ascii_digit c ≡ false → (b == c) ≡ false
digit-not b c e d = by (b == c) refl where
  by : (t : Bool) → (b == c) ≡ t → t ≡ false
  by true f = let same : b ≡ c = grind (arith, nat_tests) in let no : true ≡ false = sym e ∙ ap is_ascii_digit same ∙ d in cc
  by false f = refl

digit-no-space : (b : ℕ) → is_ascii_digit b ≡ true → is_space b ≡ false
digit-no-space b e = rw (digit-not b 32 e refl, digit-not b 9 e refl, digit-not b 10 e refl, digit-not b 13 e refl) refl

-- ---- what holds of digits

no-space : (ds : List ℕ) → AllPass is_ascii_digit ds → prefix_len is_space ds ≡ 0
no-space [] all = refl
no-space (b ∷ ds) all = ap (λ t. cond t (1 + prefix_len is_space ds) 0) (digit-no-space b (All-head IsDigit b ds all))

stays-trimmed : (ds : List ℕ) → AllPass is_ascii_digit ds → trimmed ds ≡ ds
stays-trimmed ds all =
    ap (λ k. without_back (drop k ds)) (no-space ds all)
    ∙ ap (λ k. take (length ds - k) ds) (no-space (reverse ds) (AllPass-reverse is_ascii_digit ds all))
    ∙ take_all (length ds - 0) ds (omega arith)

-- ---- and so of a number

pub allowed-decimal : (n : ℕ) → n < 2 ^ 32 → AreAllowed (decimal n)
allowed-decimal n h = allowed-printed (decimal n) (printed-decimal n h)

pub decimal-read : (limit n : ℕ) → n < 2 ^ 32 → n < limit → number_in limit (decimal n) ≡ Some n
decimal-read limit n wide h =
    ap (number_below limit) (stays-trimmed (decimal n) (numerals n wide).plain)
    ∙ digits-read limit n (decimal n) h (decimal-digits n (omega (arith, wide)))
