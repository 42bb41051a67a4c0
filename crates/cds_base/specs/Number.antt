-- Numbers in digits.
use Rattle.std.specs.Prelude.{◌==◌, ℕ, ◌+◌, ◌*◌, ◌^◌, nat_lt, Bool, false, ◌&&◌, if◌then◌else◌, Option, Some, None, List, [], ◌∷◌, length}
use Rattle.std.specs.List.{list_all}
use Rattle.std.specs.Char.{is_digit, digit_value}

-- The value of a run of digits to a base: the sum of each digit times the power of the base at its place. Letters of either case
-- come after the digit nine.
abbrev pub value_in : ℕ → List ℕ → ℕ
value_in base [] = 0
value_in base (digit ∷ rest) = digit_value digit * base ^ length rest + value_in base rest

-- Whether there is at least one byte and all are digits to the base.
abbrev pub is_number_in : ℕ → List ℕ → Bool
is_number_in base [] = false
is_number_in base (first ∷ rest) = list_all (λ byte. is_digit byte base) (first ∷ rest)

-- The number to the base that the bytes are. Leading zeros are accepted.
abbrev pub number_in : ℕ → List ℕ → Option ℕ
number_in base bytes = if is_number_in base bytes then Some (value_in base bytes) else None

-- The number to the base that the bytes are, if it is below the limit.
abbrev pub number_in_below : ℕ → ℕ → List ℕ → Option ℕ
number_in_below base limit bytes = if is_number_in base bytes && nat_lt (value_in base bytes) limit then Some (value_in base bytes) else None

-- The number that the bytes are in decimal digits, if it is below the limit. Leading zeros are accepted.
abbrev pub number_below : ℕ → List ℕ → Option ℕ
number_below limit bytes = number_in_below 10 limit bytes

-- Whether a zero stands before further bytes.
abbrev pub has_leading_zero : List ℕ → Bool
has_leading_zero [] = false
has_leading_zero (only ∷ []) = false
has_leading_zero (first ∷ second ∷ rest) = first == 48

-- The number that the bytes are in plain decimal, without a leading zero, if it is below the limit.
abbrev pub plain_below : ℕ → List ℕ → Option ℕ
plain_below limit bytes = if has_leading_zero bytes then None else number_below limit bytes
