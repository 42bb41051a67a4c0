-- How many bytes stand for a text where it is escaped.
use Rattle.std.proofs.Common.{◌≡◌, ℕ, ◌+◌, ◌<◌, ◌≤◌, ◌^◌, List, ◌++◌, length, ap, ◌∙◌, arith, length-append}
use Rattle.std.specs.Fmt.{decimal}
use Rattle.std.proofs.lemmas.Fmt.{length-decimal-le}
use Rattle.std.proofs.lemmas.Grind.{flat_map-append}
use Rattle.cds_base.specs.Escape.{escaped, escaped_byte}
use Rattle.cds_base.proofs.Plain.{stays-decimal}

pub escaped-append : (a b : List ℕ) → escaped (a ++ b) ≡ escaped a ++ escaped b
escaped-append a b = flat_map-append escaped_byte a b

abbrev pub wide : List ℕ → ℕ
wide text = length (escaped text)

pub wide-append : (a b : List ℕ) → wide (a ++ b) ≡ wide a + wide b
wide-append a b = ap length (escaped-append a b) ∙ length-append (escaped a) (escaped b)

pub short-decimal : (n : ℕ) → n < 2 ^ 32 → length (decimal n) ≤ 10
short-decimal n h = length-decimal-le 10 n (omega arith) (omega (arith, h)) (omega (arith, h))

pub wide-decimal : (n : ℕ) → n < 2 ^ 32 → wide (decimal n) ≤ 10
wide-decimal n h = let same = ap length (stays-decimal n h) in let short = short-decimal n h in omega (arith, same, short)
