-- What is read of a head that ends there.
use Rattle.std.proofs.Common.{◌≡◌, ℕ, ◌<◌, ◌≤◌, IsTrue, All, IsUtf8, List, [], length, take, drop, map, get_or, Result, Ok, Err, MatchResult, refl, sym, ap, ◌∙◌, subst, inl, arith}
use Rattle.std.proofs.lemmas.List.{append-nil, length-map, get_or-map}
use Rattle.httparse.specs.Grammar.{Field, IsField, lf, IsToken, is_token_byte, is_value_byte, RequestHead, print_request, ReadsRequest, HasNoRequest, ResponseHead, print_response, ReadsResponse, HasNoResponse}
use Rattle.httparse.specs.declared.spans.HeaderSpan.{HeaderSpan}
use Rattle.httparse.specs.declared.spans.RequestSpans.{RequestSpans}
use Rattle.httparse.specs.declared.spans.ResponseSpans.{ResponseSpans}
use Rattle.httparse.specs.Spans.{span_bytes, header_bytes, name_and_value, IsHeaderWithin, IsRequestAt, IsResponseAt, RequestOverflows, ResponseOverflows}
use Rattle.httparse.proofs.TrimLemmas.{AllPass-trim_ows}
use Rattle.httparse.proofs.RunLemmas.{length-slice_range}
use Rattle.http_header.specs.Token as header
use Rattle.http_header.specs.FieldValue.{FieldValue}
use Rattle.http_header.specs.HeaderMap.{Entries}
use Rattle.http_header.proofs.TokenLemmas.{IsUtf8-from_token}
use Rattle.cds_http.specs.declared.error.HttpError.{HttpError}
use Rattle.cds_http.specs.declared.error.HttpError.TheVariants.{Mem}
use Rattle.cds_http.specs.declared.message.Side.TheVariants.{Request, Reply}
use Rattle.cds_http.specs.declared.message.Start.TheVariants.{Request as request_start, Reply as reply_start}
use Rattle.cds_http.specs.declared.head.Head.{Head}
use Rattle.cds_http.specs.declared.lines.LinePlace.TheVariants.{Before}
use Rattle.cds_http.specs.Lines.{EndsThere}
use Rattle.cds_http.specs.Head.{CanBeKept, kept_fields, field_pair, request_head, reply_head, IsHead, IsNoHead, HoldsRequest, HoldsReply, HeadRead}
use Rattle.cds_http.proofs.Ends.{rest_none, request_ends, response_ends}
use Rattle.cds_http.proofs.ReadForms.{few_fields}

same_token : (b : ℕ) → is_token_byte b ≡ header.is_token_byte b
unfolding is_token_byte header.is_token_byte
same_token b = refl

pub token_kept : (bytes : List ℕ) → IsToken bytes → header.IsToken bytes
token_kept bytes is = (is.0, λ k d within. subst IsTrue (same_token (get_or bytes k d)) (is.1 k d within))

pub token_text : (bytes : List ℕ) → IsToken bytes → IsUtf8 bytes
token_text bytes is = IsUtf8-from_token bytes (token_kept bytes is)

field_kept : (f : Field) → IsField f → length f.name ≤ 65535 → CanBeKept (name_and_value f)
field_kept f is short = ((token_kept f.name is.name, short), AllPass-trim_ows is_value_byte f.raw is.raw)

no_field : Field
no_field = record { name = []; raw = []; end = lf }

-- each header that covers a field has a name and a value that a map of fields takes
pub covered : (text : List ℕ) (headers : List HeaderSpan) (len : ℕ) (fields : List Field) → All IsField fields
    → map (header_bytes text) headers ≡ map name_and_value fields → All (IsHeaderWithin len) headers → len ≤ length text → length text ≤ 16384
    → All (λ h. CanBeKept (header_bytes text h)) headers
covered text headers len fields sound are within fits short k d there =
    let counts : length headers ≡ length fields = sym (length-map headers (header_bytes text)) ∙ ap length are ∙ length-map fields name_and_value in
    let f = get_or fields k no_field in
    let inside : k < length fields = omega (arith, counts) in
    let same : header_bytes text (get_or headers k d) ≡ name_and_value f =
    sym (get_or-map (header_bytes text) headers k d ([], []) there)
    ∙ ap (λ (l : List (List ℕ × List ℕ)). get_or l k ([], [])) are
    ∙ get_or-map name_and_value fields k no_field ([], []) inside in
    let spans = (within k d there).0 in
    let size = length-slice_range text (get_or headers k d).name.start (get_or headers k d).name.end spans.0 (omega (arith, spans.1, fits)) in
    let name_is : span_bytes text (get_or headers k d).name ≡ f.name = ap (λ (p : List ℕ × List ℕ). p.0) same in
    subst CanBeKept (sym same)
    (field_kept f (sound k no_field inside) (omega (arith, size, ap length name_is, spans.1, fits, short)))

pub within_text : (headers : List HeaderSpan) (len n : ℕ) → len ≤ n → All (IsHeaderWithin len) headers → All (IsHeaderWithin n) headers
within_text headers len n fits within k d there =
    let h = within k d there in
    ((h.0.0, omega (arith, h.0.1)), (h.1.0, omega (arith, h.1.1)))

pub request_holds : (text : List ℕ) (headers : List HeaderSpan) (spans : RequestSpans) (h : RequestHead) (method target : List ℕ) (fields : Entries FieldValue)
    → IsRequestAt text headers spans h → method ≡ span_bytes text spans.method → target ≡ span_bytes text spans.path
    → fields ≡ kept_fields (map (header_bytes text) (take spans.headers headers))
    → HoldsRequest text headers spans (record { start = request_start method target; fields = fields })
request_holds text headers spans h method target fields at method_is target_is fields_are =
    let a : method ≡ h.method = method_is ∙ at.method in
    let b : target ≡ h.target = target_is ∙ at.path in
    let d : fields ≡ kept_fields (map field_pair h.fields) = fields_are ∙ ap kept_fields at.fields in
    let whole : ◌≡◌ {A = Head} (record { start = request_start method target; fields = fields }) (request_head h) = cc in
    (h, at, whole)

pub reply_holds : (text : List ℕ) (headers : List HeaderSpan) (spans : ResponseSpans) (h : ResponseHead) (fields : Entries FieldValue)
    → IsResponseAt text headers spans h → fields ≡ kept_fields (map (header_bytes text) (take spans.headers headers))
    → HoldsReply text headers spans (record { start = reply_start spans.code; fields = fields })
reply_holds text headers spans h fields at fields_are =
    let code = at.code in
    let d : fields ≡ kept_fields (map field_pair h.fields) = fields_are ∙ ap kept_fields at.fields in
    let whole : ◌≡◌ {A = Head} (record { start = reply_start spans.code; fields = fields }) (reply_head h) = cc in
    (h, at, whole)

pub request_read : (text : List ℕ) (headers : List HeaderSpan) (spans : RequestSpans) (head : Head) → length headers ≤ 64
    → HoldsRequest text headers spans head → EndsThere Before text → IsHead Request text head
request_read text headers spans head room holds ends =
    let h = holds.0 in
    let at = holds.1 in
    let none = rest_none Before text (print_request h) (drop spans.len text) ends (request_ends h at.reads.0) at.reads.1 in
    (h, subst (λ (rest : List ℕ). ReadsRequest text h rest) none at.reads, few_fields text headers spans.headers 64 h.fields room at.fields, holds.2)

pub reply_read : (text : List ℕ) (headers : List HeaderSpan) (spans : ResponseSpans) (head : Head) → length headers ≤ 64
    → HoldsReply text headers spans head → EndsThere Before text → IsHead Reply text head
reply_read text headers spans head room holds ends =
    let h = holds.0 in
    let at = holds.1 in
    let none = rest_none Before text (print_response h) (drop spans.len text) ends (response_ends h at.reads.0) at.reads.1 in
    (h, subst (λ (rest : List ℕ). ReadsResponse text h rest) none at.reads, few_fields text headers spans.headers 64 h.fields room at.fields, holds.2)

pub no_request : (text : List ℕ) → HasNoRequest text → IsNoHead Request text
no_request text none head is = none is.0 [] is.1

pub no_reply : (text : List ℕ) → HasNoResponse text → IsNoHead Reply text
no_reply text none head is = none is.0 [] is.1

pub wide_request : (text : List ℕ) → RequestOverflows 64 text → IsNoHead Request text
wide_request text over head is =
    let more = over [] is.0 [] (subst (λ (t : List ℕ). ReadsRequest t is.0 []) (sym (append-nil text)) is.1) in
    absurd (omega (arith, more, is.2))

pub wide_reply : (text : List ℕ) → ResponseOverflows 64 text → IsNoHead Reply text
wide_reply text over head is =
    let more = over [] is.0 [] (subst (λ (t : List ℕ). ReadsResponse t is.0 []) (sym (append-nil text)) is.1) in
    absurd (omega (arith, more, is.2))

pub request_kept : (text : List ℕ) (headers : List HeaderSpan) (spans : RequestSpans) (result : Result Head HttpError) → length headers ≤ 64
    → MatchResult result (HoldsRequest text headers spans) (λ e. e ≡ Mem) → EndsThere Before text → HeadRead Request text result
request_kept text headers spans (Ok head) room holds ends = request_read text headers spans head room holds ends
request_kept text headers spans (Err e) room memory ends = inl memory

pub reply_kept : (text : List ℕ) (headers : List HeaderSpan) (spans : ResponseSpans) (result : Result Head HttpError) → length headers ≤ 64
    → MatchResult result (HoldsReply text headers spans) (λ e. e ≡ Mem) → EndsThere Before text → HeadRead Reply text result
reply_kept text headers spans (Ok head) room holds ends = reply_read text headers spans head room holds ends
reply_kept text headers spans (Err e) room memory ends = inl memory
