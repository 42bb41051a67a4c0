-- The value of a run of digits, with a digit more at its end, and when it is no number below a limit.
use Rattle.std.proofs.Common.{◌≡◌, ℕ, ◌+◌, ◌*◌, ◌^◌, ◌<◌, ◌≤◌, Bool, true, false, cond, ◌&&◌, nat_lt, List, [], ◌∷◌, ◌++◌, length, get_or, take, drop, Some, None, refl, ap, ◌∙◌, arith, append_assoc, add-one}
use Rattle.std.proofs.Math.Nat.{pow-suc, pow-zero}
use Rattle.std.proofs.lemmas.Bool.Decides.{nat_tests}
use Rattle.std.proofs.lemmas.List.{append-nil, length_push, take-append-drop, take_more}
use Rattle.std.proofs.lemmas.List.Folds.{list_all_at, list_all_more}
use Rattle.std.specs.List.{list_all}
use Rattle.std.specs.Char.{is_digit, digit_value}
use Rattle.cds_base.specs.Number.{value_in, is_number_in, number_in_below}

pub value_in-push : (base : ℕ) (xs : List ℕ) (digit : ℕ) → value_in base (xs ++ digit ∷ []) ≡ value_in base xs * base + digit_value digit
value_in-push base [] digit = alone (digit_value digit) (base ^ 0) base (pow-zero base) where
  alone : (d p b : ℕ) → p ≡ 1 → d * p + 0 ≡ 0 * b + d
  alone d p b e = grind (arith, e)
value_in-push base (x ∷ xs) digit =
    let longer : length (xs ++ digit ∷ []) ≡ length xs + 1 = length_push xs digit in
    let power : base ^ length (xs ++ digit ∷ []) ≡ base ^ length xs * base = rw (longer, add-one) (pow-suc base (length xs)) in
    let first : ℕ = digit_value x in
    ap (λ p. first * p + value_in base (xs ++ digit ∷ [])) power
    ∙ ap (λ v. first * (base ^ length xs * base) + v) (value_in-push base xs digit)
    ∙ grouped first (base ^ length xs) base (value_in base xs) (digit_value digit)
  where
    grouped : (d p b v e : ℕ) → d * (p * b) + (v * b + e) ≡ (d * p + v) * b + e
    grouped d p b v e = grind arith

-- more digits are no less
value_grows : (base : ℕ) (xs ys : List ℕ) → 2 ≤ base → value_in base xs ≤ value_in base (xs ++ ys)
value_grows base xs [] h = rw append-nil (omega arith)
value_grows base xs (y ∷ ys) h =
    let step = value_in-push base xs y in
    let rest : value_in base (xs ++ y ∷ []) ≤ value_in base ((xs ++ y ∷ []) ++ ys) = value_grows base (xs ++ y ∷ []) ys h in
    let same : (xs ++ y ∷ []) ++ ys ≡ xs ++ y ∷ ys = append_assoc xs (y ∷ []) ys in
    let here : value_in base (xs ++ y ∷ []) ≤ value_in base (xs ++ y ∷ ys) = rw same at rest in
    let more : value_in base xs ≤ value_in base xs * base = widens (value_in base xs) base h in
    omega (arith, step)
  where
    widens : (v b : ℕ) → 2 ≤ b → v ≤ v * b
    widens v b h = grind arith

pub value_of_front : (base : ℕ) (bytes : List ℕ) (i : ℕ) → 2 ≤ base → value_in base (take i bytes) ≤ value_in base bytes
value_of_front base bytes i h =
    let grown = value_grows base (take i bytes) (drop i bytes) h in rw take-append-drop at grown

-- a value that reaches the limit is refused
pub number-too_great : (base limit : ℕ) (bytes : List ℕ) → limit ≤ value_in base bytes → number_in_below base limit bytes ≡ None
number-too_great base limit bytes h =
    let test : nat_lt (value_in base bytes) limit ≡ false = grind (arith, nat_tests) in
    by (is_number_in base bytes) (nat_lt (value_in base bytes) limit) test
  where
    by : (a b : Bool) → b ≡ false → cond (a && b) (Some (value_in base bytes)) None ≡ None
    by true b e = ap (λ t. cond t (Some (value_in base bytes)) None) e
    by false b e = refl

-- a byte that is no digit makes no number
pub number-no_digit : (base limit : ℕ) (bytes : List ℕ) (i : ℕ) → i < length bytes → base ≤ digit_value (get_or bytes i 0) → number_in_below base limit bytes ≡ None
number-no_digit base limit [] i inside h = absurd (omega arith)
number-no_digit base limit (x ∷ xs) i inside h = by (is_number_in base (x ∷ xs)) (list_all_at (λ byte. is_digit byte base) (x ∷ xs) i 0 inside none) where
  none : is_digit (get_or (x ∷ xs) i 0) base ≡ false
  none = above (digit_value (get_or (x ∷ xs) i 0)) base h where
    above : (d b : ℕ) → b ≤ d → nat_lt d b ≡ false
    above d b h = grind (arith, nat_tests)

  by : (a : Bool) → a ≡ false → cond (a && nat_lt (value_in base (x ∷ xs)) limit) (Some (value_in base (x ∷ xs))) None ≡ None
  by a e = ap (λ t. cond (t && nat_lt (value_in base (x ∷ xs)) limit) (Some (value_in base (x ∷ xs))) None) e

-- digits below the limit are the number of their value
pub number-read : (base limit : ℕ) (bytes : List ℕ) → 0 < length bytes → list_all (λ byte. is_digit byte base) bytes ≡ true → value_in base bytes < limit → number_in_below base limit bytes ≡ Some (value_in base bytes)
number-read base limit [] some digits h = absurd (omega arith)
number-read base limit (x ∷ xs) some digits h =
    let test : nat_lt (value_in base (x ∷ xs)) limit ≡ true = grind (arith, nat_tests) in
    by (is_number_in base (x ∷ xs)) (nat_lt (value_in base (x ∷ xs)) limit) digits test
  where
    by : (a b : Bool) → a ≡ true → b ≡ true → cond (a && b) (Some (value_in base (x ∷ xs))) None ≡ Some (value_in base (x ∷ xs))
    by a b e f = rw (e, f) refl

-- the value with the digit at a place
pub value_with : (base : ℕ) (bytes : List ℕ) (i : ℕ) → i < length bytes → value_in base (take (i + 1) bytes) ≡ value_in base (take i bytes) * base + digit_value (get_or bytes i 0)
value_with base bytes i h = ap (value_in base) (take_more bytes i 0 h) ∙ value_in-push base (take i bytes) (get_or bytes i 0)

-- a product or a sum on the way that reaches the limit
pub number-too_great_product : (base limit : ℕ) (bytes : List ℕ) (i v b : ℕ) → 2 ≤ base → i < length bytes → v ≡ value_in base (take i bytes) → b ≡ base → limit ≤ v * b → number_in_below base limit bytes ≡ None
number-too_great_product base limit bytes i v b low inside is_value is_base over =
    let front = value_of_front base bytes (i + 1) low in
    let more = value_with base bytes i inside in
    let product : v * b ≡ value_in base (take i bytes) * base = rw (is_value, is_base) refl in
    number-too_great base limit bytes (omega arith)

pub number-too_great_sum : (base limit : ℕ) (bytes : List ℕ) (i v b d : ℕ) → 2 ≤ base → i < length bytes → v ≡ value_in base (take i bytes) → b ≡ base → d ≡ digit_value (get_or bytes i 0) → limit ≤ v * b + d → number_in_below base limit bytes ≡ None
number-too_great_sum base limit bytes i v b d low inside is_value is_base is_digit over =
    let front = value_of_front base bytes (i + 1) low in
    let more = value_with base bytes i inside in
    let product : v * b ≡ value_in base (take i bytes) * base = rw (is_value, is_base) refl in
    number-too_great base limit bytes (omega arith)

-- one digit more
pub value_with_digit : (base : ℕ) (bytes : List ℕ) (i v b d : ℕ) → i < length bytes → v ≡ value_in base (take i bytes) → b ≡ base → d ≡ digit_value (get_or bytes i 0) → v * b + d ≡ value_in base (take (i + 1) bytes)
value_with_digit base bytes i v b d inside is_value is_base is_digit =
    let more = value_with base bytes i inside in
    let product : v * b ≡ value_in base (take i bytes) * base = rw (is_value, is_base) refl in
    omega arith

pub all_with_digit : (base : ℕ) (bytes : List ℕ) (i d : ℕ) → i < length bytes → list_all (λ byte. is_digit byte base) (take i bytes) ≡ true → d ≡ digit_value (get_or bytes i 0) → d < base → list_all (λ byte. is_digit byte base) (take (i + 1) bytes) ≡ true
all_with_digit base bytes i d inside so_far is d_is =
    list_all_more (λ byte. is_digit byte base) bytes i 0 inside ∙ rw so_far (below (digit_value (get_or bytes i 0)) base (omega arith)) where
      below : (d b : ℕ) → d < b → nat_lt d b ≡ true
      below d b h = grind (arith, nat_tests)
