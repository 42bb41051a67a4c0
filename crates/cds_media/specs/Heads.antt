-- The head of the reply to a request for a file (RFC 9110 on range requests).
use Rattle.std.specs.Prelude.{ℕ, ◌-◌, List, [], ◌∷◌, ◌++◌, codes}
use Rattle.std.specs.Fmt.{decimal}
use Rattle.cds_http.specs.declared.fields.Field.{Field}
use Rattle.cds_http.specs.Written.{reply_text}
use Rattle.cds_media.specs.declared.slice.Plan.{Plan}
use Rattle.cds_media.specs.declared.slice.Plan.TheVariants.{Whole, Part, None as Nothing}
use Rattle.cds_media.specs.Plans.{count_of}

abbrev pub status_of : Plan → ℕ
status_of Whole = 200
status_of (Part from to) = 206
status_of Nothing = 416

-- The two fields that 200 and 206 have.
abbrev pub kind_fields : List Field
kind_fields =
    record { name = codes "CONTENT-TYPE"; value = codes "audio/flac" }
    ∷ record { name = codes "ACCEPT-RANGES"; value = codes "bytes" }
    ∷ []

-- The first and the last place of a part. `to` is the place after the last.
abbrev pub places_text : ℕ → ℕ → List ℕ
places_text from to = codes "bytes " ++ decimal from ++ codes "-" ++ decimal (to - 1)

abbrev pub part_text : ℕ → ℕ → ℕ → List ℕ
part_text size from to = places_text from to ++ codes "/" ++ decimal size

abbrev pub refused_text : ℕ → List ℕ
refused_text size = codes "bytes */" ++ decimal size

abbrev pub range_field : List ℕ → Field
range_field value = record { name = codes "CONTENT-RANGE"; value = value }

-- The given fields of the reply.
abbrev pub fields_of : ℕ → Plan → List Field
fields_of size Whole = kind_fields
fields_of size (Part from to) = kind_fields ++ range_field (part_text size from to) ∷ []
fields_of size Nothing = range_field (refused_text size) ∷ []

-- The head, up to its empty line. CONTENT-LENGTH counts the bytes that are planned.
abbrev pub head_text : ℕ → Plan → List ℕ
head_text size plan = reply_text (status_of plan) (fields_of size plan) (count_of size plan)
