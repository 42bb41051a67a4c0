-- The words of the outside: streams that may fail, and how many bytes they moved.
use Rattle.std.specs.Prelude.{◌≡◌, ℕ, ◌+◌, ◌-◌, ◌^◌, ◌<◌, ◌≤◌, min, ◌⊎◌, Option, Some, List, ◌++◌, length, take}

-- A count after it rises by this much. It stops at the last value of a u64.
abbrev pub raised : ℕ → ℕ → ℕ
raised n by = min (n + by) (2 ^ 64 - 1)

-- A count rose, or it stands at the last value of a u64, at which no rise shows.
abbrev pub Rose : ℕ → ℕ → Type 0
Rose old new = (old < new) ⊎ (2 ^ 64 - 1 ≤ new)

-- This holds of a value, if it is told. If it is not told, nothing is claimed.
abbrev pub Told : {A : Type 0} → Option A → (A → Type 0) → Type 0
Told {A} told P = (value : A) → told ≡ Some value → P value

-- A sink that held these bytes now holds them and a prefix of the piece.
abbrev pub HoldsPart : List ℕ → List ℕ → Option (List ℕ) → Type 0
HoldsPart bytes piece after = (n : ℕ) × (n ≤ length piece) × (after ≡ Some (bytes ++ take n piece))

-- What a source tells of itself.
pub record SourceTold : Type 0 where
  -- the bytes that are left, if it tells them
  pub left : Option (List ℕ)
  -- how many bytes it gave so far
  pub moved : ℕ
  -- how many calls failed so far
  pub faults : ℕ

-- What a sink tells of itself.
pub record SinkTold : Type 0 where
  -- the bytes that it took so far, if it tells them
  pub holds : Option (List ℕ)
  -- how many calls failed so far
  pub faults : ℕ
