-- What is written is read back.
use Rattle.std.specs.Prelude.{◌≡◌, ◌≢◌, ℕ, ◌+◌, ◌<◌, ◌≤◌, Bool, All, IsUtf8, List, [], ◌∷◌, ◌++◌, length, map, reverse, codes}
use Rattle.std.specs.Fmt.{decimal}
use Rattle.httparse.specs.Grammar.{AllPass, IsToken, is_uri_byte, is_value_byte, skip_ows}
use Rattle.http_header.specs.Token.{lowercase}
use Rattle.cds_http.specs.declared.fields.Field.{Field}
use Rattle.cds_http.specs.declared.message.Side.TheVariants.{Request, Reply}
use Rattle.cds_http.specs.declared.message.Start.TheVariants.{Request as request_start, Reply as reply_start}
use Rattle.cds_http.specs.Known.{Whole}
use Rattle.cds_http.specs.Head.{head_limit, field_limit, kept_fields}
use Rattle.cds_http.specs.Framing.{body_limit}
use Rattle.cds_http.specs.Decided.{Decides}
use Rattle.cds_http.specs.Written.{written_request, written_reply, request_text, reply_text}

-- A field that is read as it was written: the name is a token and neither CONTENT-LENGTH nor TRANSFER-ENCODING. The
-- value has no control byte except the tab, and no blank at an end.
pub record IsReadBack (f : Field) : Type 0 where
  pub name : IsToken f.name
  pub no_length : lowercase f.name ≢ codes "content-length"
  pub no_coding : lowercase f.name ≢ codes "transfer-encoding"
  pub value : AllPass is_value_byte f.value
  pub front : skip_ows f.value ≡ f.value
  pub back : skip_ows (reverse f.value) ≡ reverse f.value

-- The name and the value of a field.
abbrev pub given_pair : Field → List ℕ × List ℕ
given_pair f = (f.name, f.value)

-- The last two fields of every message.
abbrev pub last_pairs : ℕ → List (List ℕ × List ℕ)
last_pairs count = (codes "CONTENT-LENGTH", decimal count) ∷ (codes "CONNECTION", codes "close") ∷ []

-- The first two of every reply.
abbrev pub own_pairs : List (List ℕ × List ℕ)
own_pairs = (codes "EXT", []) ∷ (codes "SERVER", codes "unix/1.0 UPnP/2.0 cds/1.0") ∷ []

-- A written request is read as it was written, whatever comes after it.
abbrev pub RequestsAreReadBack : Type 0
RequestsAreReadBack =
    (method target : List ℕ) (fields : List Field) (body more : List ℕ) (ended : Bool)
    → IsToken method → (0 < length target) × AllPass is_uri_byte target → IsUtf8 target
    → All IsReadBack fields → length fields + 2 ≤ field_limit
    → length (request_text method target fields (length body)) ≤ head_limit → length body ≤ body_limit
    → Decides ended Request (written_request method target fields body ++ more)
    (Whole (record { start = request_start method target; fields = kept_fields (map given_pair fields ++ last_pairs (length body)); body = body }) more)

-- A written reply with a status of three digits is read as it was written, too.
abbrev pub RepliesAreReadBack : Type 0
RepliesAreReadBack =
    (status : ℕ) (fields : List Field) (body more : List ℕ) (ended : Bool)
    → 100 ≤ status → status < 1000
    → All IsReadBack fields → length fields + 4 ≤ field_limit
    → length (reply_text status fields (length body)) ≤ head_limit → length body ≤ body_limit
    → Decides ended Reply (written_reply status fields body ++ more)
    (Whole (record { start = reply_start status; fields = kept_fields (own_pairs ++ map given_pair fields ++ last_pairs (length body)); body = body }) more)
