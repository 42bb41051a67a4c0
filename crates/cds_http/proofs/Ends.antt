-- Heads, chunk lines and trailers of the grammar end where a scan ends them.
use Rattle.std.proofs.Common.{◌≡◌, ◌≢◌, ℕ, ◌+◌, ◌<◌, Bool, true, false, IsTrue, All, List, [], ◌∷◌, ◌++◌, length, Option, Some, None, refl, sym, ap, ◌∙◌, subst, arith}
use Rattle.std.proofs.Common.{length-append}
use Rattle.std.specs.List.{flat_map}
use Rattle.std.specs.Char.{is_ascii_hexdigit, is_ascii_digit}
use Rattle.std.proofs.lemmas.Bool.Decides.{nat_tests}
use Rattle.std.proofs.lemmas.List.{nil_from_length}
use Rattle.std.proofs.lemmas.List.Elements.{All-head, All-tail}
use Rattle.httparse.specs.Grammar.{LineEnd, crlf, lf, print_end, print_blank, print_version, print_field, print_section, Field, IsField, RequestHead, IsRequestHead, print_request, ResponseHead, IsResponseHead, print_response, print_reason, reason_phrase, ChunkLine, IsChunkLine, print_chunk_line, print_extension, IsExtension, AllPass, is_token_byte, is_uri_byte, is_value_byte, is_ows, is_extension_byte}
use Rattle.cds_http.specs.declared.lines.LinePlace.{LinePlace}
use Rattle.cds_http.specs.declared.lines.LinePlace.TheVariants.{Before, Inside, Fresh, InLine}
use Rattle.cds_http.specs.declared.lines.Scan.{Scan}
use Rattle.cds_http.specs.declared.lines.Scan.TheVariants.{Ended, Open}
use Rattle.cds_http.specs.Lines.{next_place, further, scan_step, scanned, EndsThere}
use Rattle.cds_http.proofs.Scans.{ended-append, ends_there, stays_open}

-- a text that ends where its front does has nothing behind that
pub rest_none : (start : LinePlace) (text front rest : List ℕ) → EndsThere start text → EndsThere start front → text ≡ front ++ rest → rest ≡ []
rest_none start text front rest whole ends is =
    let at_front : scanned start text ≡ Ended (length front) =
    ap (scanned start) is ∙ ended-append start front rest (length front) ends in
    let both : Ended (length text) ≡ Ended (length front) = sym whole ∙ at_front in
    let same : length text ≡ length front = cc in
    nil_from_length rest (omega (arith, same, ap length is, length-append front rest))

pub inside_step : (b : ℕ) → b ≢ 10 → next_place Inside b ≡ Some Inside
inside_step b other = grind (arith, nat_tests)

pub in_line_step : (b : ℕ) → b ≢ 10 → next_place InLine b ≡ Some InLine
in_line_step b other = grind (arith, nat_tests)

fresh_step : (b : ℕ) → b ≢ 10 → b ≢ 13 → next_place Fresh b ≡ Some Inside
fresh_step b first second = grind (arith, nat_tests)

before_step : (b : ℕ) → b ≢ 10 → b ≢ 13 → next_place Before b ≡ Some Inside
before_step b first second = grind (arith, nat_tests)

pub scan_first : (p q : LinePlace) (b : ℕ) (bytes : List ℕ) → next_place p b ≡ Some q → scanned p (b ∷ bytes) ≡ further 1 (scanned q bytes)
scan_first p q b bytes is = ap (λ (o : Option LinePlace). scan_step o (λ next. scanned next bytes)) is

-- bytes with no LF stay in their line
pub inside_all : (test : ℕ → Bool) → ((b : ℕ) → IsTrue (test b) → b ≢ 10) → (bytes : List ℕ) → AllPass test bytes → scanned Inside bytes ≡ Open Inside
inside_all test clean [] pass = refl
inside_all test clean (b ∷ bytes) pass =
    scan_first Inside Inside b bytes (inside_step b (clean b (All-head (λ b. IsTrue (test b)) b bytes pass)))
    ∙ ap (further 1) (inside_all test clean bytes (All-tail (λ b. IsTrue (test b)) b bytes pass))

pub in_line_all : (test : ℕ → Bool) → ((b : ℕ) → IsTrue (test b) → b ≢ 10) → (bytes : List ℕ) → AllPass test bytes → scanned InLine bytes ≡ Open InLine
in_line_all test clean [] pass = refl
in_line_all test clean (b ∷ bytes) pass =
    scan_first InLine InLine b bytes (in_line_step b (clean b (All-head (λ b. IsTrue (test b)) b bytes pass)))
    ∙ ap (further 1) (in_line_all test clean bytes (All-tail (λ b. IsTrue (test b)) b bytes pass))

fails_at : (test : ℕ → Bool) (x : ℕ) → test x ≡ false → (b : ℕ) → IsTrue (test b) → b ≢ x
fails_at test x fails b pass is =
    let here : test x ≡ true = subst (λ (n : ℕ). test n ≡ true) is pass in
    let no : false ≡ true = sym fails ∙ here in cc

token_lf : is_token_byte 10 ≡ false
unfolding is_token_byte
token_lf = refl

token_cr : is_token_byte 13 ≡ false
unfolding is_token_byte
token_cr = refl

some_token : (bytes : List ℕ) → 0 < length bytes → AllPass is_token_byte bytes
    → (scanned Fresh bytes ≡ Open Inside) × (scanned Before bytes ≡ Open Inside)
some_token [] some pass = absurd (omega arith)
some_token (b ∷ bytes) some pass =
    let here = All-head (λ b. IsTrue (is_token_byte b)) b bytes pass in
    let rest = ap (further 1) (inside_all is_token_byte (fails_at is_token_byte 10 token_lf) bytes (All-tail (λ b. IsTrue (is_token_byte b)) b bytes pass)) in (
      scan_first Fresh Inside b bytes (fresh_step b (fails_at is_token_byte 10 token_lf b here) (fails_at is_token_byte 13 token_cr b here)) ∙ rest,
      scan_first Before Inside b bytes (before_step b (fails_at is_token_byte 10 token_lf b here) (fails_at is_token_byte 13 token_cr b here)) ∙ rest,
    )

inside_end : (e : LineEnd) → scanned Inside (print_end e) ≡ Open Fresh
inside_end crlf = refl
inside_end lf = refl

fresh_end : (e : LineEnd) → EndsThere Fresh (print_end e)
fresh_end crlf = refl
fresh_end lf = refl

before_blank : (ends : List LineEnd) → scanned Before (print_blank ends) ≡ Open Before
before_blank [] = refl
before_blank (crlf ∷ ends) = ap (λ (s : Scan). further 1 (further 1 s)) (before_blank ends)
before_blank (lf ∷ ends) = ap (further 1) (before_blank ends)

-- one text behind another, in their places
joined : (p q r : LinePlace) (a b : List ℕ) → scanned p a ≡ Open q → scanned q b ≡ Open r → scanned p (a ++ b) ≡ Open r
joined p q r a b = stays_open p q r a b

one : (p q : LinePlace) (b : ℕ) (bytes : List ℕ) (r : LinePlace) → next_place p b ≡ Some q → scanned q bytes ≡ Open r → scanned p (b ∷ bytes) ≡ Open r
one p q b bytes r first rest = scan_first p q b bytes first ∙ ap (further 1) rest

field_line : (f : Field) → IsField f → scanned Fresh (print_field f) ≡ Open Fresh
field_line f is =
    stays_open Fresh Inside Fresh ((f.name ++ 58 ∷ f.raw)) (print_end f.end)
    (stays_open Fresh Inside Inside f.name (58 ∷ f.raw) (some_token f.name is.name.0 is.name.1).0
    (one Inside Inside 58 f.raw Inside refl (inside_all is_value_byte (fails_at is_value_byte 10 refl) f.raw is.raw)))
    (inside_end f.end)

field_lines : (fields : List Field) → All IsField fields → scanned Fresh (flat_map print_field fields) ≡ Open Fresh
field_lines [] all = refl
field_lines (f ∷ fields) all =
    stays_open Fresh Fresh Fresh (print_field f) (flat_map print_field fields) (field_line f (All-head IsField f fields all)) (field_lines fields (All-tail IsField f fields all))

-- a trailer ends with its empty line
pub section_ends : (fields : List Field) (last : LineEnd) → All IsField fields → EndsThere Fresh (print_section fields last)
section_ends fields last all = ends_there Fresh Fresh (flat_map print_field fields) (print_end last) (field_lines fields all) (fresh_end last)

extension_in_line : (e : Option (List ℕ)) → IsExtension e → scanned InLine (print_extension e) ≡ Open InLine
extension_in_line None is = refl
extension_in_line (Some text) is = one InLine InLine 59 text InLine refl (in_line_all is_extension_byte (fails_at is_extension_byte 10 refl) text is)

-- a chunk line ends with its CR LF
pub line_ends : (l : ChunkLine) → IsChunkLine l → EndsThere InLine (print_chunk_line l)
unfolding print_chunk_line
line_ends l is =
    ends_there InLine InLine (l.digits ++ l.pad ++ print_extension l.extension) (print_end crlf)
    (stays_open InLine InLine InLine (l.digits ++ l.pad) (print_extension l.extension)
    (stays_open InLine InLine InLine l.digits l.pad
    (in_line_all is_ascii_hexdigit (fails_at is_ascii_hexdigit 10 refl) l.digits is.digits.2)
    (in_line_all is_ows (fails_at is_ows 10 refl) l.pad is.pad))
    (extension_in_line l.extension is.extension))
    refl

version_from : (p : LinePlace) (minor : ℕ) → next_place p 72 ≡ Some Inside → scanned p (print_version minor) ≡ Open Inside
version_from p minor first =
    one p Inside 72 (84 ∷ 84 ∷ 80 ∷ 47 ∷ 49 ∷ 46 ∷ (48 + minor) ∷ []) Inside first
    (stays_open Inside Inside Inside (84 ∷ 84 ∷ 80 ∷ 47 ∷ 49 ∷ 46 ∷ []) ((48 + minor) ∷ []) refl
    (one Inside Inside (48 + minor) [] Inside (inside_step (48 + minor) (λ e. absurd (omega arith))) refl))

-- a head ends with its empty line
pub request_ends : (h : RequestHead) → IsRequestHead h → EndsThere Before (print_request h)
unfolding print_request
request_ends h is =
    let start = print_blank h.blank ++ h.method in
    let line = start ++ 32 ∷ h.target ++ 32 ∷ print_version h.minor in
    let at_method = stays_open Before Before Inside (print_blank h.blank) h.method (before_blank h.blank) (some_token h.method is.method.0 is.method.1).1 in
    let at_target = stays_open Before Inside Inside start (32 ∷ h.target) at_method
    (one Inside Inside 32 h.target Inside refl (inside_all is_uri_byte (fails_at is_uri_byte 10 refl) h.target is.target.1)) in
    let at_version = stays_open Before Inside Inside (start ++ 32 ∷ h.target) (32 ∷ print_version h.minor) at_target
    (one Inside Inside 32 (print_version h.minor) Inside refl (version_from Inside h.minor refl)) in
    ends_there Before Fresh (line ++ print_end h.line_end) (print_section h.fields h.last)
    (stays_open Before Inside Fresh line (print_end h.line_end) at_version (inside_end h.line_end))
    (section_ends h.fields h.last is.fields)

reason_inside : (reason : Option (List ℕ)) → AllPass is_value_byte (reason_phrase reason) → scanned Inside (print_reason reason) ≡ Open Inside
reason_inside None pass = refl
reason_inside (Some phrase) pass = one Inside Inside 32 phrase Inside refl (inside_all is_value_byte (fails_at is_value_byte 10 refl) phrase pass)

pub response_ends : (h : ResponseHead) → IsResponseHead h → EndsThere Before (print_response h)
unfolding print_response
response_ends h is =
    let start = print_blank h.blank ++ print_version h.minor in
    let line = start ++ 32 ∷ h.digits ++ print_reason h.reason in
    let at_version = stays_open Before Before Inside (print_blank h.blank) (print_version h.minor) (before_blank h.blank) (version_from Before h.minor refl) in
    let at_code = stays_open Before Inside Inside start (32 ∷ h.digits) at_version
    (one Inside Inside 32 h.digits Inside refl (inside_all is_ascii_digit (fails_at is_ascii_digit 10 refl) h.digits is.digits.1)) in
    let at_reason = stays_open Before Inside Inside (start ++ 32 ∷ h.digits) (print_reason h.reason) at_code (reason_inside h.reason is.reason) in
    ends_there Before Fresh (line ++ print_end h.line_end) (print_section h.fields h.last)
    (stays_open Before Inside Fresh line (print_end h.line_end) at_reason (inside_end h.line_end))
    (section_ends h.fields h.last is.fields)
