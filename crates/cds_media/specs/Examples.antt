-- Small ranges, requests and heads evaluated by the definitions.
use Rattle.std.specs.Prelude.{◌≡◌, ℕ, List, [], ◌∷◌, ◌++◌, codes, Some, None}
use Rattle.cds_http.specs.declared.message.Message.{Message}
use Rattle.cds_http.specs.declared.message.Start.TheVariants.{Reply, Request}
use Rattle.cds_http.specs.Head.{kept_fields}
use Rattle.cds_http.specs.Written.{field_lines, line_break}
use Rattle.cds_media.specs.declared.slice.Plan.TheVariants.{Whole, Part, None as Nothing}
use Rattle.cds_media.specs.declared.range.ByteRange.TheVariants.{Closed, Open, Suffix}
use Rattle.cds_media.specs.Heads.{fields_of, status_of}
use Rattle.cds_media.specs.Plans.{count_of, plan_of, slice_of}
use Rattle.cds_media.specs.Ranges.{greatest, range_in}

-- Leading zeros are accepted, and 30 digits count as the greatest number of 64 bits.
abbrev pub RangesAreRead : Type 0
RangesAreRead =
    (range_in (codes "bytes=2-4") ≡ Some (Closed 2 4))
    × (range_in (codes "bytes=4-2") ≡ Some (Closed 4 2))
    × (range_in (codes "bytes=10-") ≡ Some (Open 10))
    × (range_in (codes "bytes=-3") ≡ Some (Suffix 3))
    × (range_in (codes "bytes=-0") ≡ Some (Suffix 0))
    × (range_in (codes "bytes=007-0009") ≡ Some (Closed 7 9))
    × (range_in (codes "bytes=18446744073709551615-") ≡ Some (Open greatest))
    × (range_in (codes "bytes=18446744073709551616-") ≡ Some (Open greatest))
    × (range_in (codes "bytes=0-999999999999999999999999999999") ≡ Some (Closed 0 greatest))
    × (range_in (codes "bytes=-999999999999999999999999999999") ≡ Some (Suffix greatest))
    × (range_in (codes "bytes=999999999999999999999999999999-888888888888888888888888888888") ≡ Some (Closed greatest greatest))

-- Another unit, other letters, no number, a sign, white space, two ranges, and what stands around a range.
abbrev pub WrongFormsArePassedOver : Type 0
WrongFormsArePassedOver =
    (range_in [] ≡ None)
    × (range_in (codes "bytes") ≡ None)
    × (range_in (codes "bytes=") ≡ None)
    × (range_in (codes "bytes=-") ≡ None)
    × (range_in (codes "bytes=5") ≡ None)
    × (range_in (codes "2-4") ≡ None)
    × (range_in (codes "items=2-4") ≡ None)
    × (range_in (codes "Bytes=2-4") ≡ None)
    × (range_in (codes "bytes:2-4") ≡ None)
    × (range_in (codes "bytes=2-4,6-7") ≡ None)
    × (range_in (codes "bytes=2-4,") ≡ None)
    × (range_in (codes "bytes=,2-4") ≡ None)
    × (range_in (codes "bytes= 2-4") ≡ None)
    × (range_in (codes "bytes=2 -4") ≡ None)
    × (range_in (codes "bytes=2-4-6") ≡ None)
    × (range_in (codes "bytes=--3") ≡ None)
    × (range_in (codes "bytes=+2-4") ≡ None)
    × (range_in (codes "bytes=a-4") ≡ None)
    × (range_in (codes "bytes=2-b") ≡ None)
    × (range_in (codes "bytes=0x2-4") ≡ None)
    × (range_in (codes "bytes=2-*") ≡ None)
    × (range_in (codes " bytes=2-4") ≡ None)

-- A request with a method and some RANGE fields.
abbrev pub asked : List ℕ → List (List ℕ) → Message
asked method ranges = record { start = Request method (codes "/media/2"); fields = kept_fields (with_name ranges); body = [] }
  where
    with_name : List (List ℕ) → List (List ℕ × List ℕ)
    with_name [] = []
    with_name (range ∷ rest) = (codes "RANGE", range) ∷ with_name rest

-- The same with GET and one field, whose name is in these letters.
abbrev pub got_by : List ℕ → List ℕ → Message
got_by name range = record { start = Request (codes "GET") (codes "/media/2"); fields = kept_fields ((name, range) ∷ []); body = [] }

-- A reply with a RANGE field.
abbrev pub replied : List ℕ → Message
replied range = record { start = Reply 200; fields = kept_fields ((codes "RANGE", range) ∷ []); body = [] }

abbrev pub got : List ℕ → Message
got range = asked (codes "GET") (range ∷ [])

-- The file of the examples.
abbrev pub ten_bytes : List ℕ
ten_bytes = codes "0123456789"

-- Of a file of ten bytes, of an empty one, and of one of the greatest size.
abbrev pub RangesAreCut : Type 0
RangesAreCut =
    (plan_of 10 (got (codes "bytes=2-4")) ≡ Part 2 5)
    × (slice_of 10 (Part 2 5) ten_bytes ≡ codes "234")
    × (plan_of 10 (got (codes "bytes=-3")) ≡ Part 7 10)
    × (slice_of 10 (Part 7 10) ten_bytes ≡ codes "789")
    × (plan_of 10 (got (codes "bytes=0-0")) ≡ Part 0 1)
    × (plan_of 10 (got_by (codes "Range") (codes "bytes=2-4")) ≡ Part 2 5)
    × (plan_of 10 (got (codes "bytes=0-9")) ≡ Part 0 10)
    × (plan_of 10 (got (codes "bytes=9-9")) ≡ Part 9 10)
    × (plan_of 10 (got (codes "bytes=-1")) ≡ Part 9 10)
    × (plan_of 10 (got (codes "bytes=-11")) ≡ Part 0 10)
    × (plan_of 10 (got (codes "bytes=0-")) ≡ Part 0 10)
    × (plan_of 10 (got (codes "bytes=9-")) ≡ Part 9 10)
    × (plan_of 10 (got (codes "bytes=8-99")) ≡ Part 8 10)
    × (plan_of 10 (got (codes "bytes=0-999999999999999999999999999999")) ≡ Part 0 10)
    × (plan_of 10 (got (codes "bytes=-10")) ≡ Part 0 10)
    × (plan_of 10 (got (codes "bytes=-999999999999999999999999999999")) ≡ Part 0 10)
    × (plan_of 10 (got (codes "bytes=10-")) ≡ Nothing)
    × (plan_of 10 (got (codes "bytes=10-20")) ≡ Nothing)
    × (plan_of 10 (got (codes "bytes=999999999999999999999999999999-")) ≡ Nothing)
    × (plan_of 10 (got (codes "bytes=-0")) ≡ Nothing)
    × (plan_of 10 (got (codes "bytes=4-2")) ≡ Whole)
    × (plan_of 10 (got (codes "bytes=20-10")) ≡ Whole)
    × (plan_of 0 (got (codes "bytes=-3")) ≡ Whole)
    × (plan_of 0 (got (codes "bytes=-0")) ≡ Nothing)
    × (plan_of 0 (got (codes "bytes=0-")) ≡ Nothing)
    × (plan_of 0 (got (codes "bytes=0-0")) ≡ Nothing)
    × (plan_of 0 (got (codes "bytes=1-0")) ≡ Whole)
    × (plan_of greatest (got (codes "bytes=0-18446744073709551615")) ≡ Part 0 greatest)

-- Without a range that counts, the whole file is planned.
abbrev pub OthersPlanTheWhole : Type 0
OthersPlanTheWhole =
    (plan_of 10 (asked (codes "GET") []) ≡ Whole)
    × (plan_of 10 (got (codes "bytes=2-4,6-7")) ≡ Whole)
    × (plan_of 10 (got (codes "bytes=")) ≡ Whole)
    × (plan_of 10 (asked (codes "GET") (codes "bytes=2-4" ∷ codes "bytes=2-4" ∷ [])) ≡ Whole)
    × (plan_of 10 (asked (codes "GET") (codes "bytes=2-4" ∷ codes "items=2-4" ∷ [])) ≡ Whole)
    × (plan_of 10 (asked (codes "GET") (codes "items=2-4" ∷ codes "bytes=2-4" ∷ [])) ≡ Whole)
    × (plan_of 10 (replied (codes "bytes=2-4")) ≡ Whole)
    × (plan_of 10 (asked (codes "HEAD") (codes "bytes=2-4" ∷ [])) ≡ Whole)
    × (plan_of 10 (asked (codes "HEAD") (codes "bytes=10-" ∷ [])) ≡ Whole)
    × (plan_of 10 (asked (codes "POST") (codes "bytes=2-4" ∷ [])) ≡ Whole)
    × (plan_of 10 (asked (codes "get") (codes "bytes=2-4" ∷ [])) ≡ Whole)
    × (slice_of 10 Whole ten_bytes ≡ ten_bytes)
    × (slice_of 10 Whole (codes "012345") ≡ codes "012345")
    × (slice_of 3 Whole ten_bytes ≡ codes "012")
    × (slice_of 10 Nothing ten_bytes ≡ [])

-- The two fields that 200 and 206 have.
abbrev pub two_lines : List ℕ
two_lines = codes "CONTENT-TYPE: audio/flac" ++ line_break ++ codes "ACCEPT-RANGES: bytes" ++ line_break

-- Status, number of bytes and given fields.
abbrev pub HeadsSayTheirPart : Type 0
HeadsSayTheirPart =
    (status_of Whole ≡ 200)
    × (count_of 10 Whole ≡ 10)
    × (field_lines (fields_of 10 Whole) ≡ two_lines)
    × (status_of (Part 2 5) ≡ 206)
    × (count_of 10 (Part 2 5) ≡ 3)
    × (field_lines (fields_of 10 (Part 2 5)) ≡ two_lines ++ codes "CONTENT-RANGE: bytes 2-4/10" ++ line_break)
    × (field_lines (fields_of 10 (Part 7 10)) ≡ two_lines ++ codes "CONTENT-RANGE: bytes 7-9/10" ++ line_break)
    × (status_of Nothing ≡ 416)
    × (count_of 10 Nothing ≡ 0)
    × (field_lines (fields_of 10 Nothing) ≡ codes "CONTENT-RANGE: bytes */10" ++ line_break)
    × (field_lines (fields_of 0 Nothing) ≡ codes "CONTENT-RANGE: bytes */0" ++ line_break)
