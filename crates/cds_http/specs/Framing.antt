-- How the body of a message is cut out of the bytes after its head (RFC 9112 on the length of a message's body).
use Rattle.std.specs.Prelude.{ℕ, nat_le, List, [], ◌∷◌, codes, bytes_eq, map, Result, Ok, Err, if◌then◌else◌}
use Rattle.std.specs.Char.{to_ascii_lowercase}
use Rattle.cds_base.specs.Number.{is_number_in, value_in}
use Rattle.http_header.specs.HeaderMap.{Entries, get_all}
use Rattle.http_header.specs.FieldValue.{FieldValue}
use Rattle.cds_http.specs.declared.error.HttpError.{HttpError}
use Rattle.cds_http.specs.declared.error.HttpError.TheVariants.{BadLength, TooLong}
use Rattle.cds_http.specs.declared.message.Side.{Side}
use Rattle.cds_http.specs.declared.message.Side.TheVariants.{Request, Reply}
use Rattle.cds_http.specs.declared.framing.Framing.{Framing}
use Rattle.cds_http.specs.declared.framing.Framing.TheVariants.{Counted, Chunked, ToEnd}

-- The most bytes of a body.
abbrev pub body_limit : ℕ
body_limit = 67108864

-- CONTENT-LENGTH is digits, at least one and any number of them.
abbrev pub counted_framing : List ℕ → Result Framing HttpError
counted_framing digits =
    if is_number_in 10 digits then (if nat_le (value_in 10 digits) body_limit then Ok (Counted (value_in 10 digits)) else Err TooLong)
    else Err BadLength

-- TRANSFER-ENCODING is chunked, in letters of either case, and nothing else.
abbrev pub coded_framing : List ℕ → Result Framing HttpError
coded_framing coding = if bytes_eq (map to_ascii_lowercase coding) (codes "chunked") then Ok Chunked else Err BadLength

-- Without either field a request has no body, and the body of a reply ends with the connection.
abbrev pub unframed : Side → Framing
unframed Request = Counted 0
unframed Reply = ToEnd

-- The rule by the values of both fields: each comes at most once, and not beside the other.
abbrev pub framing_by : Side → List FieldValue → List FieldValue → Result Framing HttpError
framing_by side [] [] = Ok (unframed side)
framing_by side [] (coding ∷ []) = coded_framing coding.bytes
framing_by side [] (coding ∷ second ∷ more) = Err BadLength
framing_by side (size ∷ []) [] = counted_framing size.bytes
framing_by side (size ∷ []) (coding ∷ codings) = Err BadLength
framing_by side (size ∷ second ∷ more) codings = Err BadLength

abbrev pub framing_of : Side → Entries FieldValue → Result Framing HttpError
framing_of side fields = framing_by side (get_all fields (codes "content-length")) (get_all fields (codes "transfer-encoding"))
