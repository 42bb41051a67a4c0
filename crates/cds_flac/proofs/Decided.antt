-- Tests that are decided.
use Rattle.std.proofs.Common.{◌≡◌, ℕ, ◌<◌, ◌≤◌, nat_lt, nat_eq, Bool, true, false, not, cond, refl, ap, arith}
use Rattle.std.proofs.lemmas.Bool.Decides.{nat_tests}

pub taken-then : {X : Type 0} (b : Bool) (x y : X) → b ≡ true → cond b x y ≡ x
taken-then b x y e = ap (λ t. cond t x y) e

pub taken-else : {X : Type 0} (b : Bool) (x y : X) → b ≡ false → cond b x y ≡ y
taken-else b x y e = ap (λ t. cond t x y) e

pub below-true : (m n : ℕ) → m < n → nat_lt m n ≡ true
below-true m n h = grind (arith, nat_tests)

pub below-false : (m n : ℕ) → n ≤ m → nat_lt m n ≡ false
below-false m n h = grind (arith, nat_tests)

-- a negated test
pub not-false : (b : Bool) → false ≡ not b → b ≡ true
not-false true h = refl
not-false false h = absurd (cc)

pub not-true : (b : Bool) → true ≡ not b → b ≡ false
not-true true h = absurd (cc)
not-true false h = refl

pub equal-true : (m n : ℕ) → m ≡ n → nat_eq m n ≡ true
equal-true m n h = grind (arith, nat_tests)

pub equal-false : (m n : ℕ) → (m ≡ n → ⊥) → nat_eq m n ≡ false
equal-false m n h = grind (arith, nat_tests)
