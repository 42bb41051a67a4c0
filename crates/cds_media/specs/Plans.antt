-- What is planned of a file for a request (RFC 9110 on range requests).
use Rattle.std.specs.Prelude.{◌==◌, ℕ, ◌+◌, ◌-◌, ◌<◌, ◌≤◌, nat_lt, min, ⊤, Bool, false, List, [], ◌∷◌, codes, bytes_eq, take, drop, Option, Some, None, option_and_then, if◌then◌else◌}
use Rattle.http_header.specs.HeaderMap.{get_all}
use Rattle.http_header.specs.FieldValue.{FieldValue}
use Rattle.cds_http.specs.declared.message.Start.{Start}
use Rattle.cds_http.specs.declared.message.Start.TheVariants.{Request, Reply}
use Rattle.cds_http.specs.declared.message.Message.{Message}
use Rattle.cds_media.specs.declared.slice.Plan.{Plan}
use Rattle.cds_media.specs.declared.slice.Plan.TheVariants.{Whole, Part, None as Nothing}
use Rattle.cds_media.specs.declared.range.ByteRange.{ByteRange}
use Rattle.cds_media.specs.declared.range.ByteRange.TheVariants.{Closed, Open, Suffix}
use Rattle.cds_media.specs.Ranges.{range_in}

abbrev pub is_get : Start → Bool
is_get (Request method target) = bytes_eq method (codes "GET")
is_get (Reply status) = false

-- The value of a field that comes exactly once.
abbrev pub only_value : List FieldValue → Option (List ℕ)
only_value [] = None
only_value (value ∷ []) = Some value.bytes
only_value (value ∷ second ∷ more) = None

-- The range that a message asks for. RANGE counts for GET alone, and only if it comes once.
abbrev pub range_of : Message → Option ByteRange
range_of message =
    if is_get message.start then option_and_then range_in (only_value (get_all message.fields (codes "range"))) else None

-- From `first` up to and including `last`. If `last` is below `first`, the range is passed over.
abbrev pub cut_closed : ℕ → ℕ → ℕ → Plan
cut_closed size first last =
    if nat_lt last first then Whole
    else if nat_lt first size then Part first (min (last + 1) size)
    else Nothing

-- From `first` to the end.
abbrev pub cut_open : ℕ → ℕ → Plan
cut_open size first = if nat_lt first size then Part first size else Nothing

-- The last `count` bytes, or all if there are fewer. If there are none, the whole file is planned.
abbrev pub cut_suffix : ℕ → ℕ → Plan
cut_suffix size count =
    if count == 0 then Nothing
    else if size == 0 then Whole
    else Part (size - count) size

abbrev pub cut : ℕ → ByteRange → Plan
cut size (Closed first last) = cut_closed size first last
cut size (Open first) = cut_open size first
cut size (Suffix count) = cut_suffix size count

abbrev pub planned : ℕ → Option ByteRange → Plan
planned size None = Whole
planned size (Some range) = cut size range

-- What is planned of a file of this size.
abbrev pub plan_of : ℕ → Message → Plan
plan_of size message = planned size (range_of message)

-- ---- what a plan says

-- A part is not empty, and lies within the file.
abbrev pub FitsIn : ℕ → Plan → Type 0
FitsIn size Whole = ⊤
FitsIn size (Part from to) = (from < to) × (to ≤ size)
FitsIn size Nothing = ⊤

-- The place of the first byte that is planned, or 0 if nothing is.
abbrev pub start_of : Plan → ℕ
start_of Whole = 0
start_of (Part from to) = from
start_of Nothing = 0

-- The number of bytes that are planned.
abbrev pub count_of : ℕ → Plan → ℕ
count_of size Whole = size
count_of size (Part from to) = to - from
count_of size Nothing = 0

-- The bytes that are planned of a file that holds these.
abbrev pub slice_of : ℕ → Plan → List ℕ → List ℕ
slice_of size plan bytes = take (count_of size plan) (drop (start_of plan) bytes)
