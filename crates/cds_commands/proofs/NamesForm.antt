-- Names differ with their numbers, and have 128 bits.
use Rattle.std.proofs.Common.{◌+◌, ◌^◌, ◌<◌, ℕ, refl, arith}
use Rattle.cds_commands.specs.Names.{high_word, low_word, names_differ, names_are_short, names_evaluated}

pub differ : names_differ
differ start m n low high e = omega (arith, e)

high-short : (high : ℕ) → high < 2 ^ 64 → high_word high < 2 ^ 64
high-short high l = omega (arith, l)

low-short : (low n : ℕ) → n < 2 ^ 32 → low_word low + n < 2 ^ 64
low-short low n l = omega (arith, l)

pub short : names_are_short
short start n h l k = let a = high-short start.high h in let b = low-short start.low n k in omega (arith, a, b)

pub evaluated : names_evaluated
evaluated = (refl, refl, refl)
