-- Steps of a reader over the bytes of a file. Each takes the place at which it begins and the bytes that are left, and gives a
-- value and what is left after it, or the refusal.
use Rattle.std.specs.Prelude.{ℕ, ◌+◌, nat_le, if◌then◌else◌, Result, Ok, Err, List, length, take, drop}
use Rattle.cds_flac.specs.declared.error.FlacError.{FlacError}
use Rattle.cds_flac.specs.declared.error.FlacError.TheVariants.{Truncated}
use Rattle.cds_flac.specs.Numbers.{big_endian, little_endian}

abbrev pub Step : Type 0 → Type 0
Step A = Result (A × List ℕ) FlacError

-- One step, and then another on what the first left.
abbrev pub after : {A B : Type 0} → Step A → (A → List ℕ → Step B) → Step B
after (Err refusal) next = Err refusal
after (Ok found) next = next found.0 found.1

-- This many bytes. If the source ends before, the place of the refusal is after its last byte.
abbrev pub taken : ℕ → ℕ → List ℕ → Step (List ℕ)
taken at n left = if nat_le n (length left) then Ok (take n left, drop n left) else Err (Truncated (at + length left))

-- A number of this many bytes, the highest first.
abbrev pub big_number : ℕ → ℕ → List ℕ → Step ℕ
big_number at n left = after (taken at n left) (λ bytes rest. Ok (big_endian bytes, rest))

-- A number of 32 bits, the lowest byte first.
abbrev pub little_number : ℕ → List ℕ → Step ℕ
little_number at left = after (taken at 4 left) (λ bytes rest. Ok (little_endian bytes, rest))
