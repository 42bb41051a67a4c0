-- Small heads, bodies and messages evaluated by the definitions.
use Rattle.std.specs.Prelude.{◌≡◌, ℕ, true, false, List, [], ◌∷◌, ◌++◌, codes, Ok, Err}
use Rattle.http_header.specs.FieldValue.{plain_value}
use Rattle.cds_http.specs.declared.error.HttpError.TheVariants.{BadLength, BadChunk, TooLong}
use Rattle.cds_http.specs.declared.message.Side.TheVariants.{Request, Reply}
use Rattle.cds_http.specs.declared.lines.LinePlace.TheVariants.{InLine}
use Rattle.cds_http.specs.declared.lines.Scan.TheVariants.{Ended}
use Rattle.cds_http.specs.declared.framing.Framing.TheVariants.{Counted, Chunked, ToEnd}
use Rattle.cds_http.specs.Known.{Whole, Needs, Refused}
use Rattle.cds_http.specs.Lines.{scanned}
use Rattle.cds_http.specs.Head.{head_cut}
use Rattle.cds_http.specs.Framing.{framing_by}
use Rattle.cds_http.specs.Chunks.{counted, open_body, one_more, line_cut, trailer_cut}
use Rattle.cds_http.specs.Written.{line_break}

-- A request line and one field.
abbrev pub small_head : List ℕ
small_head = codes "GET / HTTP/1.1" ++ line_break ++ codes "HOST: a" ++ line_break

-- The head ends with its empty line, also after empty lines at its start and with LF alone. Bytes after it are left.
abbrev pub HeadsAreCut : Type 0
HeadsAreCut =
    (head_cut small_head ≡ Needs)
    × (head_cut (small_head ++ 13 ∷ []) ≡ Needs)
    × (head_cut (small_head ++ line_break ++ codes "xyz") ≡ Whole (small_head ++ line_break) (codes "xyz"))
    × (head_cut (line_break ++ 10 ∷ small_head ++ 10 ∷ codes "x") ≡ Whole (line_break ++ 10 ∷ small_head ++ 10 ∷ []) (codes "x"))
    × (head_cut (line_break ++ line_break) ≡ Needs)
    × (scanned InLine (codes "5;a" ++ line_break ++ codes "hello") ≡ Ended 5)
    × (line_cut (codes "5" ++ line_break ++ codes "hel") ≡ Whole (codes "5" ++ line_break) (codes "hel"))
    × (trailer_cut (line_break ++ codes "x") ≡ Whole line_break (codes "x"))
    × (trailer_cut (codes "A: b" ++ line_break) ≡ Needs)

-- Lengths with leading zeros, a sign, 30 digits, twice and beside chunks. Chunks in letters of either case and with
-- another coding.
abbrev pub BodiesAreFramed : Type 0
BodiesAreFramed =
    (framing_by Request [] [] ≡ Ok (Counted 0))
    × (framing_by Reply [] [] ≡ Ok ToEnd)
    × (framing_by Reply (plain_value (codes "007") ∷ []) [] ≡ Ok (Counted 7))
    × (framing_by Request (plain_value (codes "67108864") ∷ []) [] ≡ Ok (Counted 67108864))
    × (framing_by Request (plain_value (codes "67108865") ∷ []) [] ≡ Err TooLong)
    × (framing_by Request (plain_value (codes "999999999999999999999999999999") ∷ []) [] ≡ Err TooLong)
    × (framing_by Request (plain_value (codes "+7") ∷ []) [] ≡ Err BadLength)
    × (framing_by Request (plain_value [] ∷ []) [] ≡ Err BadLength)
    × (framing_by Request (plain_value (codes "7") ∷ plain_value (codes "7") ∷ []) [] ≡ Err BadLength)
    × (framing_by Request (plain_value (codes "7") ∷ []) (plain_value (codes "chunked") ∷ []) ≡ Err BadLength)
    × (framing_by Request [] (plain_value (codes "ChunKed") ∷ []) ≡ Ok Chunked)
    × (framing_by Request [] (plain_value (codes "gzip, chunked") ∷ []) ≡ Err BadLength)
    × (framing_by Request [] (plain_value (codes "chunked") ∷ plain_value (codes "chunked") ∷ []) ≡ Err BadLength)

-- The bytes of a body.
abbrev pub BodiesAreTaken : Type 0
BodiesAreTaken =
    (counted 3 (codes "abcde") ≡ Whole (codes "abc") (codes "de"))
    × (counted 3 (codes "ab") ≡ Needs)
    × (open_body false (codes "ab") ≡ Needs)
    × (open_body true (codes "ab") ≡ Whole (codes "ab") [])
    × (one_more (codes "ab") 2 (codes "cd" ++ line_break ++ codes "0") ≡ Whole (codes "abcd") (codes "0"))
    × (one_more (codes "ab") 2 (codes "cd" ++ 13 ∷ []) ≡ Needs)
    × (one_more (codes "ab") 2 (codes "cdx") ≡ Refused BadChunk)
    × (one_more (codes "ab") 2 (codes "cd" ++ 13 ∷ codes "x") ≡ Refused BadChunk)
    × (one_more (codes "ab") 67108862 (codes "cd") ≡ Needs)
    × (one_more (codes "ab") 67108863 (codes "cd") ≡ Refused TooLong)
