-- Steps that were refused, read backwards.
use Rattle.std.proofs.Common.{◌≡◌, ℕ, ◌+◌, ◌<◌, nat_le, nat_lt, Bool, true, false, cond, List, length, take, drop, Ok, Err, refl, sym, ap, ◌⊎◌, inl, inr, arith}
use Rattle.std.proofs.lemmas.Bool.Decides.{nat_tests}
use Rattle.cds_flac.specs.declared.error.FlacError.{FlacError}
use Rattle.cds_flac.specs.declared.error.FlacError.TheVariants.{Truncated}
use Rattle.cds_flac.specs.Numbers.{big_endian, little_endian}
use Rattle.cds_flac.specs.Step.{Step, after, taken, big_number, little_number}

-- a refusal is no value, and equal refusals are one
pub ok-refused : {A : Type 0} (x : A × List ℕ) (e : FlacError) → ◌≡◌ {A = Step A} (Ok x) (Err e) → ⊥
ok-refused x e h = cc

pub same_refusal : {A : Type 0} (r e : FlacError) → ◌≡◌ {A = Step A} (Err r) (Err e) → r ≡ e
same_refusal r e h = cc

-- two steps were refused, so the first was, or it gave a value and then the second was
pub after-refused : {A B : Type 0} (step : Step A) (next : A → List ℕ → Step B) (e : FlacError) → after step next ≡ Err e → (step ≡ Err e) ⊎ ((found : A × List ℕ) × (step ≡ Ok found) × (next found.0 found.1 ≡ Err e))
after-refused (Ok found) next e h = inr (found, refl, h)
after-refused {A} {B} (Err r) next e h = inl (ap (λ x. Err x) (same_refusal {A = B} r e h))

-- a choice was refused
pub choice-refused : {A : Type 0} (b : Bool) (x y : Step A) (e : FlacError) → cond b x y ≡ Err e → ((b ≡ true) × (x ≡ Err e)) ⊎ ((b ≡ false) × (y ≡ Err e))
choice-refused true x y e h = inl (refl, h)
choice-refused false x y e h = inr (refl, h)

pub below-was : (m n : ℕ) → nat_lt m n ≡ true → m < n
below-was m n h = grind (arith, nat_tests)

pub short-was : (m n : ℕ) → nat_le m n ≡ false → n < m
short-was m n h = grind (arith, nat_tests)

-- bytes that were too few
pub taken-refused : (at n : ℕ) (left : List ℕ) (e : FlacError) → taken at n left ≡ Err e → (e ≡ Truncated (at + length left)) × (length left < n)
taken-refused at n left e h =
    let split : List ℕ × List ℕ = (take n left, drop n left) in
    let refusal : Step (List ℕ) = Err (Truncated (at + length left)) in
    elim (choice-refused (nat_le n (length left)) (Ok split) refusal e h) [
      | inl was ↦ absurd (ok-refused split e was.1)
      | inr was ↦ (sym (same_refusal {A = List ℕ} (Truncated (at + length left)) e was.1), short-was n (length left) was.0)
    ]

pub big-refused : (at n : ℕ) (left : List ℕ) (e : FlacError) → big_number at n left ≡ Err e → (e ≡ Truncated (at + length left)) × (length left < n)
big-refused at n left e h =
    let next : List ℕ → List ℕ → Step ℕ = λ bytes rest. Ok (big_endian bytes, rest) in
    elim (after-refused (taken at n left) next e h) [
      | inl was ↦ taken-refused at n left e was
      | inr was ↦ absurd (number-refused was.0 e was.2)
    ]
  where
    number-refused : (found : List ℕ × List ℕ) (e : FlacError) → ◌≡◌ {A = Step ℕ} (Ok (big_endian found.0, found.1)) (Err e) → ⊥
    number-refused found e h = ok-refused (big_endian found.0, found.1) e h

pub little-refused : (at : ℕ) (left : List ℕ) (e : FlacError) → little_number at left ≡ Err e → (e ≡ Truncated (at + length left)) × (length left < 4)
little-refused at left e h =
    let next : List ℕ → List ℕ → Step ℕ = λ bytes rest. Ok (little_endian bytes, rest) in
    elim (after-refused (taken at 4 left) next e h) [
      | inl was ↦ taken-refused at 4 left e was
      | inr was ↦ absurd (number-refused was.0 e was.2)
    ]
  where
    number-refused : (found : List ℕ × List ℕ) (e : FlacError) → ◌≡◌ {A = Step ℕ} (Ok (little_endian found.0, found.1)) (Err e) → ⊥
    number-refused found e h = ok-refused (little_endian found.0, found.1) e h
