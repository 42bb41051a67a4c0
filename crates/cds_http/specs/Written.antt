-- Messages as this project writes them: HTTP/1.1 (RFC 9112), with the fields of UPnP Device Architecture 2.0.
use Rattle.std.specs.Prelude.{ℕ, ◌==◌, Bool, not, ◌&&◌, ◌||◌, IsTrue, List, [], ◌∷◌, ◌++◌, length, codes, if◌then◌else◌}
use Rattle.std.specs.List.{flat_map, list_all}
use Rattle.std.specs.Fmt.{decimal}
use Rattle.httparse.specs.Grammar.{is_token}
use Rattle.cds_http.specs.declared.fields.Field.{Field}

-- CR LF.
abbrev pub line_break : List ℕ
line_break = 13 ∷ 10 ∷ []

-- A byte that may stand in a value: neither CR nor LF nor NUL.
abbrev pub can_stand : ℕ → Bool
can_stand b = not (b == 13 || b == 10 || b == 0)

-- The name is a token, and the value has no CR, LF or NUL.
abbrev pub is_written_field : Field → Bool
is_written_field f = is_token f.name && list_all can_stand f.value

abbrev pub CanBeWritten : List Field → Type 0
CanBeWritten fields = IsTrue (list_all is_written_field fields)

-- A field line.
abbrev pub field_line : List ℕ → List ℕ → List ℕ
field_line name value = name ++ codes ": " ++ value ++ line_break

abbrev pub field_lines : List Field → List ℕ
field_lines fields = flat_map (λ f. field_line f.name f.value) fields

-- The last two fields and the empty line.
abbrev pub last_lines : ℕ → List ℕ
last_lines count = field_line (codes "CONTENT-LENGTH") (decimal count) ++ field_line (codes "CONNECTION") (codes "close") ++ line_break

abbrev pub request_line : List ℕ → List ℕ → List ℕ
request_line method target = method ++ codes " " ++ target ++ codes " HTTP/1.1" ++ line_break

-- The reason of a status that is written here, and no text for any other.
abbrev pub reason_of : ℕ → List ℕ
reason_of status =
    if status == 200 then codes "OK"
    else if status == 206 then codes "Partial Content"
    else if status == 400 then codes "Bad Request"
    else if status == 404 then codes "Not Found"
    else if status == 405 then codes "Method Not Allowed"
    else if status == 412 then codes "Precondition Failed"
    else if status == 413 then codes "Content Too Large"
    else if status == 416 then codes "Range Not Satisfiable"
    else if status == 500 then codes "Internal Server Error"
    else if status == 503 then codes "Service Unavailable"
    else []

abbrev pub status_line : ℕ → List ℕ
status_line status = codes "HTTP/1.1 " ++ decimal status ++ codes " " ++ reason_of status ++ line_break

-- The fields of every reply.
abbrev pub own_lines : List ℕ
own_lines = codes "EXT:" ++ line_break ++ field_line (codes "SERVER") (codes "unix/1.0 UPnP/2.0 cds/1.0")

abbrev pub request_text : List ℕ → List ℕ → List Field → ℕ → List ℕ
request_text method target fields count = request_line method target ++ field_lines fields ++ last_lines count

abbrev pub reply_text : ℕ → List Field → ℕ → List ℕ
reply_text status fields count = status_line status ++ own_lines ++ field_lines fields ++ last_lines count

abbrev pub written_request : List ℕ → List ℕ → List Field → List ℕ → List ℕ
written_request method target fields body = request_text method target fields (length body) ++ body

abbrev pub written_reply : ℕ → List Field → List ℕ → List ℕ
written_reply status fields body = reply_text status fields (length body) ++ body
