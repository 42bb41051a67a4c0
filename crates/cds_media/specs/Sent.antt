-- How a call ends that sends bytes of a source to a sink.
use Rattle.std.specs.Prelude.{◌≡◌, ◌≤◌, ⊤, ℕ, List, drop, Option, Some}
use Rattle.cds_media.specs.declared.error.SendError.{SendError}
use Rattle.cds_media.specs.declared.error.SendError.TheVariants.{ReadFault, WriteFault, Short}

-- This holds if the source failed.
abbrev pub OnReadFault : SendError → Type 0 → Type 0
OnReadFault ReadFault P = P
OnReadFault WriteFault P = ⊤
OnReadFault (Short at) P = ⊤

-- This holds if the sink failed.
abbrev pub OnWriteFault : SendError → Type 0 → Type 0
OnWriteFault ReadFault P = ⊤
OnWriteFault WriteFault P = P
OnWriteFault (Short at) P = ⊤

-- This holds of the number of bytes, if the source ended early.
abbrev pub OnShort : SendError → (ℕ → Type 0) → Type 0
OnShort ReadFault P = ⊤
OnShort WriteFault P = ⊤
OnShort (Short at) P = P at

-- Of a source that had these bytes, what is left is all after the first n, for some n that is not above the count.
abbrev pub HasRest : List ℕ → ℕ → Option (List ℕ) → Type 0
HasRest bytes count left = (n : ℕ) × (n ≤ count) × (left ≡ Some (drop n bytes))
