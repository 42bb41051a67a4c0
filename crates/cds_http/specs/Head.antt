-- The head of a message.
use Rattle.std.specs.Prelude.{◌≡◌, ℕ, ◌≤◌, ◌⊎◌, List, [], length, map, Result, Ok, Err}
use Rattle.httparse.specs.Grammar.{Field, field_value, RequestHead, ReadsRequest, ResponseHead, ReadsResponse, status_code}
use Rattle.http_header.specs.HeaderMap.{Entries, append_all}
use Rattle.http_header.specs.FieldName.{IsFieldName}
use Rattle.http_header.specs.FieldValue.{FieldValue, plain_value, IsFieldValue}
use Rattle.httparse.specs.declared.spans.HeaderSpan.{HeaderSpan}
use Rattle.httparse.specs.declared.spans.RequestSpans.{RequestSpans}
use Rattle.httparse.specs.declared.spans.ResponseSpans.{ResponseSpans}
use Rattle.httparse.specs.Spans.{IsRequestAt, IsResponseAt}
use Rattle.http_header.specs.Token.{lowercase}
use Rattle.cds_http.specs.declared.error.HttpError.{HttpError}
use Rattle.cds_http.specs.declared.error.HttpError.TheVariants.{BadHead, HeadTooLong, Mem}
use Rattle.cds_http.specs.declared.message.Side.{Side}
use Rattle.cds_http.specs.declared.message.Side.TheVariants.{Request, Reply}
use Rattle.cds_http.specs.declared.message.Start.TheVariants.{Request as request_start, Reply as reply_start}
use Rattle.cds_http.specs.declared.head.Head.{Head}
use Rattle.cds_http.specs.declared.lines.LinePlace.TheVariants.{Before}
use Rattle.cds_http.specs.Known.{Known, Whole, Needs, Refused, Then}
use Rattle.cds_http.specs.Lines.{cut_at}

-- The most bytes of a head, or of a trailer.
abbrev pub head_limit : ℕ
head_limit = 16384

-- The most fields of a head, or of a trailer.
abbrev pub field_limit : ℕ
field_limit = 64

-- A name in lower case with its value.
abbrev pub kept_field : List ℕ × List ℕ → List ℕ × FieldValue
kept_field p = (lowercase p.0, plain_value p.1)

-- The name of a field as it is written, and its value without the white space around it.
abbrev pub field_pair : Field → List ℕ × List ℕ
field_pair f = (f.name, field_value f)

-- The fields by their names in lower case, each with its values in order.
abbrev pub kept_fields : List (List ℕ × List ℕ) → Entries FieldValue
kept_fields pairs = append_all [] (map kept_field pairs)

abbrev pub request_head : RequestHead → Head
request_head h = record { start = request_start h.method h.target; fields = kept_fields (map field_pair h.fields) }

abbrev pub reply_head : ResponseHead → Head
reply_head h = record { start = reply_start (status_code h); fields = kept_fields (map field_pair h.fields) }

-- The text is a head of the grammar of HTTP/1.1 (RFC 9112) with at most `field_limit` fields, and means this.
abbrev pub IsHead : Side → List ℕ → Head → Type 0
IsHead Request text head = (h : RequestHead) × ReadsRequest text h [] × (length h.fields ≤ field_limit) × (head ≡ request_head h)
IsHead Reply text head = (h : ResponseHead) × ReadsResponse text h [] × (length h.fields ≤ field_limit) × (head ≡ reply_head h)

-- The text is no such head.
abbrev pub IsNoHead : Side → List ℕ → Type 0
IsNoHead side text = (head : Head) → ¬ (IsHead side text head)

-- What the bytes up to the end of a head say. They are judged when that end has come.
abbrev pub HeadOf : Side → List ℕ → List ℕ → Known Head → Type 0
HeadOf side text rest (Whole head left) = IsHead side text head × (left ≡ rest)
HeadOf side text rest Needs = ⊥
HeadOf side text rest (Refused e) = (e ≡ BadHead) × IsNoHead side text

-- The prefix of the bytes up to the first empty line after a line that is not empty.
abbrev pub head_cut : List ℕ → Known (List ℕ)
head_cut bytes = cut_at Before HeadTooLong head_limit bytes

-- What the bytes say of the head that they begin with.
abbrev pub HeadKnown : Side → List ℕ → Known Head → Type 0
HeadKnown side bytes known = Then (head_cut bytes) (HeadOf side) known

-- A name and a value that a map of fields takes.
abbrev pub CanBeKept : List ℕ × List ℕ → Type 0
CanBeKept p = IsFieldName p.0 × IsFieldValue p.1

-- The head of a request, and of a reply, that spans of a text cover.
abbrev pub HoldsRequest : List ℕ → List HeaderSpan → RequestSpans → Head → Type 0
HoldsRequest text headers spans head = (h : RequestHead) × IsRequestAt text headers spans h × (head ≡ request_head h)

abbrev pub HoldsReply : List ℕ → List HeaderSpan → ResponseSpans → Head → Type 0
HoldsReply text headers spans head = (h : ResponseHead) × IsResponseAt text headers spans h × (head ≡ reply_head h)

-- A text that ends at the end of a head is read.
abbrev pub HeadRead : Side → List ℕ → Result Head HttpError → Type 0
HeadRead side text (Ok head) = IsHead side text head
HeadRead side text (Err e) = (e ≡ Mem) ⊎ ((e ≡ BadHead) × IsNoHead side text)
