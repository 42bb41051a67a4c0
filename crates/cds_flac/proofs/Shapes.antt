-- Steps that gave a value, read backwards, and steps that give one.
use Rattle.std.proofs.Common.{◌≡◌, ℕ, ◌+◌, ◌≤◌, nat_le, nat_lt, Bool, true, false, cond, List, [], ◌∷◌, ◌++◌, length, take, drop, Ok, Err, refl, sym, ap, ◌∙◌, arith, length-append}
use Rattle.std.proofs.lemmas.Bool.Decides.{nat_tests}
use Rattle.std.proofs.lemmas.List.{take-append-drop, take_at, drop_at, length-take-le}
use Rattle.cds_flac.specs.declared.error.FlacError.{FlacError}
use Rattle.cds_flac.specs.declared.error.FlacError.TheVariants.{Truncated}
use Rattle.cds_flac.specs.Numbers.{big_endian, little_endian}
use Rattle.cds_flac.specs.Step.{Step, after, taken, big_number, little_number}
use Rattle.cds_flac.proofs.Steps.{after-ok}
use Rattle.cds_flac.proofs.Takes.{taken-enough}

-- two steps gave a value, so the first did and then the second
pub after-was : {A B : Type 0} (step : Step A) (next : A → List ℕ → Step B) (result : B × List ℕ) → after step next ≡ Ok result → (found : A × List ℕ) × (step ≡ Ok found) × (next found.0 found.1 ≡ Ok result)
after-was (Ok found) next result e = (found, refl, e)
after-was (Err refusal) next result e = absurd (cc)

-- a choice between a refusal and a step gave a value
pub then-was : {A : Type 0} (b : Bool) (refusal : FlacError) (step : Step A) (result : A × List ℕ) → cond b step (Err refusal) ≡ Ok result → (b ≡ true) × (step ≡ Ok result)
then-was true refusal step result e = (refl, e)
then-was false refusal step result e = absurd (cc)

pub else-was : {A : Type 0} (b : Bool) (refusal : FlacError) (step : Step A) (result : A × List ℕ) → cond b (Err refusal) step ≡ Ok result → (b ≡ false) × (step ≡ Ok result)
else-was true refusal step result e = absurd (cc)
else-was false refusal step result e = (refl, e)

pub within-was : (m n : ℕ) → nat_lt m n ≡ false → n ≤ m
within-was m n h = grind (arith, nat_tests)

enough-was : (m n : ℕ) → nat_le m n ≡ true → m ≤ n
enough-was m n h = grind (arith, nat_tests)

pub same_pair : {A : Type 0} (x y : A × List ℕ) → ◌≡◌ {A = Step A} (Ok x) (Ok y) → (x.0 ≡ y.0) × (x.1 ≡ y.1)
same_pair x y e = let same : x ≡ y = cc in (ap (λ p. p.0) same, ap (λ p. p.1) same)

-- what was taken is the front
pub taken-was : (at n : ℕ) (left : List ℕ) (found : List ℕ × List ℕ) → taken at n left ≡ Ok found → (left ≡ found.0 ++ found.1) × (length found.0 ≡ n)
taken-was at n left found e =
    let refusal = Truncated (at + length left) in
    let split : List ℕ × List ℕ = (take n left, drop n left) in
    let was = then-was (nat_le n (length left)) refusal (Ok split) found e in
    let parts = same_pair split found was.1 in (
      sym (take-append-drop n left) ∙ ap (λ xs. xs ++ drop n left) parts.0 ∙ ap (λ xs. found.0 ++ xs) parts.1,
      ap length (sym parts.0) ∙ length-take-le n left (enough-was n (length left) was.0),
    )

pub taken-front : (at n : ℕ) (front rest : List ℕ) → length front ≡ n → taken at n (front ++ rest) ≡ Ok (front, rest)
taken-front at n front rest long =
    taken-enough at n (front ++ rest) (omega (arith, length-append front rest))
    ∙ ap (λ xs. Ok (xs, drop n (front ++ rest))) (take_at front rest n long)
    ∙ ap (λ xs. Ok (front, xs)) (drop_at front rest n long)

-- a number of some bytes
pub big-was : (at n : ℕ) (left : List ℕ) (found : ℕ × List ℕ) → big_number at n left ≡ Ok found → (size : List ℕ) × (left ≡ size ++ found.1) × (length size ≡ n) × (big_endian size ≡ found.0)
big-was at n left found e =
    let was = after-was (taken at n left) (λ bytes rest. Ok (big_endian bytes, rest)) found e in
    let bytes = taken-was at n left was.0 was.1 in
    let made : ℕ × List ℕ = (big_endian was.0.0, was.0.1) in
    let parts = same_pair made found was.2 in
    (was.0.0, bytes.0 ∙ ap (λ xs. was.0.0 ++ xs) parts.1, bytes.1, parts.0)

pub big-front : (at n : ℕ) (size rest : List ℕ) → length size ≡ n → big_number at n (size ++ rest) ≡ Ok (big_endian size, rest)
big-front at n size rest long = after-ok (λ bytes rest. Ok (big_endian bytes, rest)) (taken-front at n size rest long)

pub little-was : (at : ℕ) (left : List ℕ) (found : ℕ × List ℕ) → little_number at left ≡ Ok found → (size : List ℕ) × (left ≡ size ++ found.1) × (length size ≡ 4) × (little_endian size ≡ found.0)
little-was at left found e =
    let was = after-was (taken at 4 left) (λ bytes rest. Ok (little_endian bytes, rest)) found e in
    let bytes = taken-was at 4 left was.0 was.1 in
    let made : ℕ × List ℕ = (little_endian was.0.0, was.0.1) in
    let parts = same_pair made found was.2 in
    (was.0.0, bytes.0 ∙ ap (λ xs. was.0.0 ++ xs) parts.1, bytes.1, parts.0)

pub little-front : (at : ℕ) (size rest : List ℕ) → length size ≡ 4 → little_number at (size ++ rest) ≡ Ok (little_endian size, rest)
little-front at size rest long = after-ok (λ bytes rest. Ok (little_endian bytes, rest)) (taken-front at 4 size rest long)

-- one byte is its number
pub one_byte : (size : List ℕ) → length size ≡ 1 → (b : ℕ) × (size ≡ b ∷ []) × (big_endian size ≡ b)
one_byte [] long = absurd (omega arith)
one_byte (b ∷ []) long = (b, refl, omega arith)
one_byte (b ∷ c ∷ rest) long = absurd (omega arith)
