-- Laws of ranges and of what is planned.
use Rattle.std.specs.Prelude.{◌≡◌, ℕ, ◌+◌, ◌<◌, ◌≤◌, min, IsTrue, List, [], ◌∷◌, length, codes, slice_get, Some}
use Rattle.http_header.specs.HeaderMap.{get_all}
use Rattle.http_header.specs.FieldValue.{FieldValue}
use Rattle.cds_http.specs.declared.message.Message.{Message}
use Rattle.cds_media.specs.declared.slice.Plan.{Plan}
use Rattle.cds_media.specs.declared.slice.Plan.TheVariants.{Whole, Part, None as Nothing}
use Rattle.cds_media.specs.declared.range.ByteRange.{ByteRange}
use Rattle.cds_media.specs.declared.range.ByteRange.TheVariants.{Closed, Open, Suffix}
use Rattle.cds_media.specs.Ranges.{range_in, Spells}
use Rattle.cds_media.specs.Plans.{FitsIn, count_of, cut, is_get, plan_of, slice_of, start_of}

-- A RANGE is read as a range exactly if it is one of the three forms of that range.
abbrev pub RangesAreSpelled : Type 0
RangesAreSpelled =
    (text : List ℕ) (range : ByteRange)
    → (range_in text ≡ Some range → Spells text range) × (Spells text range → range_in text ≡ Some range)

-- The range counts for a message: the method is GET, and RANGE comes once, in one of the three forms of that range.
abbrev pub CountsIn : Message → ByteRange → Type 0
CountsIn message range =
    IsTrue (is_get message.start)
    × ((value : FieldValue) × (get_all message.fields (codes "range") ≡ value ∷ []) × Spells value.bytes range)

-- If a range counts, what it cuts out is planned. If none does, the whole file is.
abbrev pub PlansFollowRanges : Type 0
PlansFollowRanges =
    (size : ℕ) (message : Message)
    → ((range : ByteRange) → CountsIn message range → plan_of size message ≡ cut size range)
    × (((range : ByteRange) → ¬ (CountsIn message range)) → plan_of size message ≡ Whole)

-- The range is passed over: its last place is below its first.
abbrev pub PassedOver : ByteRange → Type 0
PassedOver (Closed first last) = last < first
PassedOver (Open first) = ⊥
PassedOver (Suffix count) = ⊥

-- A range that is not passed over is refused: it begins at the end of the file or past it, or asks for the last 0 bytes.
abbrev pub Refused : ℕ → ByteRange → Type 0
Refused size (Closed first last) = size ≤ first
Refused size (Open first) = size ≤ first
Refused size (Suffix count) = count ≡ 0

-- Any other range of a file that is not empty has these two ends: the place of its first byte, and the place after its last one.
-- The last `count` bytes begin at 0 if the file has fewer.
abbrev pub HasEnds : ℕ → ByteRange → ℕ → ℕ → Type 0
HasEnds size (Closed first last) from to = (from ≡ first) × (to ≡ min (last + 1) size)
HasEnds size (Open first) from to = (from ≡ first) × (to ≡ size)
HasEnds size (Suffix count) from to = (count ≤ size → from + count ≡ size) × (size < count → from ≡ 0) × (to ≡ size)

-- What a range cuts out, in four cases: it is passed over, it is refused, the file is empty, and any other. Of each range and size
-- exactly one of them holds.
abbrev pub PlansHaveFourCases : Type 0
PlansHaveFourCases =
    (size : ℕ) (range : ByteRange)
    → (PassedOver range → cut size range ≡ Whole)
    × (¬ PassedOver range → Refused size range → cut size range ≡ Nothing)
    × (¬ PassedOver range → ¬ Refused size range → size ≡ 0 → cut size range ≡ Whole)
    × (¬ PassedOver range → ¬ Refused size range → 0 < size
    → (from : ℕ) × (to : ℕ) × (cut size range ≡ Part from to) × HasEnds size range from to)

-- The range asks for the byte at a place of a file of this size.
abbrev pub AsksFor : ℕ → ByteRange → ℕ → Type 0
AsksFor size (Closed first last) at = (first ≤ at) × (at ≤ last) × (at < size)
AsksFor size (Open first) at = (first ≤ at) × (at < size)
AsksFor size (Suffix count) at = (size ≤ at + count) × (at < size)

-- The plan names the byte at a place.
abbrev pub Names : ℕ → Plan → ℕ → Type 0
Names size plan at = (start_of plan ≤ at) × (at < start_of plan + count_of size plan)

-- If a range is not passed over, exactly the bytes that it asks for are planned.
abbrev pub PlansAreExact : Type 0
PlansAreExact =
    (size : ℕ) (range : ByteRange) (at : ℕ) → ¬ PassedOver range
    → (Names size (cut size range) at → AsksFor size range at) × (AsksFor size range at → Names size (cut size range) at)

-- The planned byte at a place is the byte of the file at that place after the start. If the file has at least as many bytes as it
-- was planned for, the number of planned bytes is the one that the plan says.
abbrev pub SlicesAreNamed : Type 0
SlicesAreNamed =
    (size : ℕ) (plan : Plan) (bytes : List ℕ)
    → ((at : ℕ) → at < count_of size plan → slice_get (slice_of size plan bytes) at ≡ slice_get bytes (start_of plan + at))
    × (FitsIn size plan → size ≤ length bytes → length (slice_of size plan bytes) ≡ count_of size plan)
