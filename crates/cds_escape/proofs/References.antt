-- Numbers too great for the code name no allowed character.
use Rattle.std.proofs.Common.{◌≡◌, ℕ, ◌^◌, ◌≤◌, Bool, true, false, cond, ◌&&◌, nat_lt, List, Some, None, refl, arith}
use Rattle.std.proofs.lemmas.Bool.Decides.{nat_tests}
use Rattle.std.specs.Option.{option_and_then}
use Rattle.cds_base.specs.Characters.{is_allowed}
use Rattle.cds_base.specs.Reference.{where_allowed}
use Rattle.cds_base.specs.Number.{value_in, is_number_in, number_in, number_in_below}

pub none_so_great : (c : ℕ) → 2 ^ 64 ≤ c → is_allowed c ≡ false
none_so_great c h = grind (arith, nat_tests)

pub allowed_below : (base : ℕ) (digits : List ℕ) → option_and_then where_allowed (number_in_below base (2 ^ 64) digits) ≡ option_and_then where_allowed (number_in base digits)
allowed_below base digits = by (is_number_in base digits) (nat_lt (value_in base digits) (2 ^ 64)) refl where
  great : (v : ℕ) → nat_lt v (2 ^ 64) ≡ false → where_allowed v ≡ None
  great v e = rw (none_so_great v (grind (arith, nat_tests))) refl

  by : (a b : Bool) → nat_lt (value_in base digits) (2 ^ 64) ≡ b → option_and_then where_allowed (cond (a && b) (Some (value_in base digits)) None) ≡ option_and_then where_allowed (cond a (Some (value_in base digits)) None)
  by false b e = refl
  by true true e = refl
  by true false e = rw (great (value_in base digits) e) refl
