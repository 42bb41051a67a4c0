-- What a reading call answers, compared with the definition over the bytes that its source had left.
use Rattle.std.specs.Prelude.{◌≡◌, ℕ, ◌+◌, ◌-◌, ◌≤◌, ⊤, Option, Some, Result, Ok, Err, List}
use Rattle.cds_outside.specs.Outside.{Rose}
use Rattle.cds_flac.specs.declared.error.FlacError.{FlacError}
use Rattle.cds_flac.specs.declared.error.FlacError.TheVariants.{NotFlac, NoStreamInfo, BadStreamInfo, Forbidden, Truncated, BadComment, TooLong, ReadFault, Mem}
use Rattle.cds_flac.specs.Step.{Step}

-- The refusal is the definition's, except a failed read or that memory ran out, which no bytes decide.
abbrev pub Judged : {A : Type 0} → Step A → FlacError → Type 0
Judged step ReadFault = ⊤
Judged step Mem = ⊤
Judged step refusal = step ≡ Err refusal

-- The step gives this value, and the source has left what the step leaves.
abbrev pub Gives : {A : Type 0} → Step A → A → Option (List ℕ) → Type 0
Gives step value left = (rest : List ℕ) × (step ≡ Ok (value, rest)) × (left ≡ Some rest)

-- The result is the step's.
abbrev pub Agrees : {A : Type 0} → Step A → Result A FlacError → Option (List ℕ) → Type 0
Agrees step (Ok value) left = Gives step value left
Agrees step (Err refusal) left = Judged step refusal

-- The same, if the value is not in the result but elsewhere.
abbrev pub Fills : {A B : Type 0} → Step A → A → Result B FlacError → Option (List ℕ) → Type 0
Fills step value (Ok done) left = Gives step value left
Fills step value (Err refusal) left = Judged step refusal

-- The same, if nobody keeps the value.
abbrev pub Passes : {A B : Type 0} → Step A → Result B FlacError → Option (List ℕ) → Type 0
Passes {A} step (Ok done) left = (value : A) × Gives step value left
Passes step (Err refusal) left = Judged step refusal

-- How many bytes from the start of the file a refusal is known by: the marker, the byte of a type, a length or the end of the
-- file; the text after a length, which a block of less than 2^24 bytes holds; or the last header within the limit. A read may
-- fail, or memory run out, at every byte of these.
abbrev pub needed : FlacError → ℕ
needed NotFlac = 4
needed NoStreamInfo = 5
needed BadStreamInfo = 8
needed (Forbidden at) = at + 1
needed (Truncated at) = at
needed (BadComment at) = at + 16777216
needed TooLong = 67108872
needed ReadFault = 67108872
needed Mem = 67108872

-- A call that begins at a place took at most this many bytes if it gave a value. Otherwise it took at most what its refusal
-- needs. The counts are those of the source.
abbrev pub Took : {A : Type 0} → Result A FlacError → (A → ℕ) → ℕ → ℕ → ℕ → Type 0
Took (Ok value) size at old new = new ≤ old + size value
Took (Err refusal) size at old new = (at ≤ needed refusal) × (new ≤ old + (needed refusal - at))

-- A failed read is answered only if the source's count of faults rose.
abbrev pub FaultRose : {A : Type 0} → Result A FlacError → ℕ → ℕ → Type 0
FaultRose (Err ReadFault) old new = Rose old new
FaultRose other old new = ⊤
