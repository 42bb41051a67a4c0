-- The range of bytes that a RANGE field asks for (RFC 9110 on range requests). This project's profile: one range of bytes in one
-- field, the unit in small letters, no white space, no empty list elements. Any other form is passed over. IF-RANGE is not looked
-- at.
use Rattle.std.specs.Prelude.{◌≡◌, ◌==◌, ℕ, Bool, ◌+◌, ◌-◌, ◌^◌, min, nat_eq, List, ◌∷◌, ◌++◌, length, codes, take, drop, position, IsTrue, Option, Some, None, option_map, if◌then◌else◌}
use Rattle.std.specs.List.{starts_with}
use Rattle.cds_base.specs.Number.{is_number_in, value_in}
use Rattle.cds_media.specs.declared.range.ByteRange.{ByteRange}
use Rattle.cds_media.specs.declared.range.ByteRange.TheVariants.{Closed, Open, Suffix}

-- The greatest number of 64 bits. A greater one counts as this.
abbrev pub greatest : ℕ
greatest = 2 ^ 64 - 1

-- The number that decimal digits count as. Leading zeros are accepted.
abbrev pub number_of : List ℕ → Option ℕ
number_of digits = if is_number_in 10 digits then Some (min (value_in 10 digits) greatest) else None

abbrev pub closed_range : Option ℕ → Option ℕ → Option ByteRange
closed_range None last = None
closed_range (Some first) None = None
closed_range (Some first) (Some last) = Some (Closed first last)

-- The range by what stands before the dash and after it: `A-B`, `A-` or `-N`.
abbrev pub range_by : List ℕ → List ℕ → Option ByteRange
range_by before after =
    if length before == 0 then option_map Suffix (number_of after)
    else if length after == 0 then option_map Open (number_of before)
    else closed_range (number_of before) (number_of after)

abbrev pub range_around : List ℕ → Option ℕ → Option ByteRange
range_around text None = None
range_around text (Some at) = range_by (take at text) (drop (at + 1) text)

abbrev pub is_dash : ℕ → Bool
is_dash byte = byte == 45

-- The range that stands around the first dash.
abbrev pub one_range : List ℕ → Option ByteRange
one_range text = range_around text (position is_dash text)

-- The range that stands after `bytes=`, in exactly these letters.
abbrev pub range_in : List ℕ → Option ByteRange
range_in text = if starts_with nat_eq text (codes "bytes=") then one_range (drop 6 text) else None

-- ---- the same in the words of the form

-- These bytes are decimal digits, and count as this number.
abbrev pub CountsAs : List ℕ → ℕ → Type 0
CountsAs digits n = IsTrue (is_number_in 10 digits) × (n ≡ min (value_in 10 digits) greatest)

-- The text is this range: `bytes=A-B`, `bytes=A-` or `bytes=-N`.
abbrev pub Spells : List ℕ → ByteRange → Type 0
Spells text (Closed first last) =
    (a : List ℕ) × (b : List ℕ) × (text ≡ codes "bytes=" ++ (a ++ 45 ∷ b)) × CountsAs a first × CountsAs b last
Spells text (Open first) = (a : List ℕ) × (text ≡ codes "bytes=" ++ (a ++ codes "-")) × CountsAs a first
Spells text (Suffix count) = (n : List ℕ) × (text ≡ codes "bytes=-" ++ n) × CountsAs n count
