-- The heads of requests and replies: their fields are read back, and they are short.
use Rattle.std.proofs.Common.{◌≡◌, ℕ, ◌+◌, ◌≤◌, ◌<◌, true, IsTrue, All, Option, Some, None, is_some, unwrap_or, option_map, List, [], ◌∷◌, ◌++◌, length, map, codes, refl, ap, ◌∙◌, arith, length-append}
use Rattle.std.specs.List.{list_all}
use Rattle.std.specs.Fmt.{decimal, digits}
use Rattle.std.proofs.lemmas.Fmt.{length-decimal-le}
use Rattle.std.proofs.lemmas.List.Elements.{All-from_recursion}
use Rattle.httparse.specs.Grammar.{IsToken, is_token_byte, is_value_byte}
use Rattle.http_header.proofs.TokenLemmas.{AllPass-from_test}
use Rattle.http_header.specs.HeaderMap.{get}
use Rattle.url.specs.Input.{when}
use Rattle.url.specs.Parts.{Parts}
use Rattle.cds_http.specs.Head.{head_limit, kept_fields}
use Rattle.cds_http.specs.Framing.{body_limit}
use Rattle.cds_http.specs.Written.{field_line, field_lines, last_lines, status_line, own_lines, line_break, reply_text, request_line, request_text}
use Rattle.cds_http.specs.Returned.{IsReadBack, given_pair, last_pairs, own_pairs}
use Rattle.cds_soap.specs.declared.answer.Answer.{Answer}
use Rattle.cds_soap.specs.declared.answer.Answer.TheVariants as answer
use Rattle.cds_soap.specs.declared.action.ActionName.{ActionName}
use Rattle.cds_soap.specs.declared.action.ActionName.TheVariants as name
use Rattle.cds_soap.specs.Names.{service_front, service_type, soap_action, in_quotes}
use Rattle.cds_soap.specs.Control.{soap_action_in}
use Rattle.cds_soap.specs.Written.{content_type, host_in, target_in, request_fields, answer_fields, answer_status, CanBeToken}
use Rattle.cds_soap.specs.Laws.{is_host}
use Rattle.cds_http.proofs.Visible.{AreVisible, back, field_of as field, visible-back, visible-literal}
use Rattle.cds_soap.proofs.Visible.{within, token-visible, host-text-visible}

-- ---- lines and their lengths

pub length-line : (name value : List ℕ) → length (field_line name value) ≡ length name + length value + 4
length-line name value =
    let a = length-append ((name ++ codes ": ") ++ value) line_break in
    let b = length-append (name ++ codes ": ") value in
    let c = length-append name (codes ": ") in
    let d : length (codes ": ") ≡ 2 = refl in
    let e : length line_break ≡ 2 = refl in
    omega (arith, a, b, c, d, e)

pub short-last : (count : ℕ) → count ≤ body_limit → length (last_lines count) ≤ 60
short-last count h =
    let ten = length-decimal-le 10 count (omega arith) (omega (arith, h)) (omega (arith, h)) in
    let a = length-append (field_line (codes "CONTENT-LENGTH") (decimal count) ++ field_line (codes "CONNECTION") (codes "close")) line_break in
    let b = length-append (field_line (codes "CONTENT-LENGTH") (decimal count)) (field_line (codes "CONNECTION") (codes "close")) in
    let c = length-line (codes "CONTENT-LENGTH") (decimal count) in
    let d : length (codes "CONTENT-LENGTH") ≡ 14 = refl in
    let e : length (field_line (codes "CONNECTION") (codes "close")) ≡ 19 = refl in
    let f : length line_break ≡ 2 = refl in
    omega (arith, ten, a, b, c, d, e, f)

-- ---- fields that are always the same

pub token : (word : List ℕ) → 0 < length word → list_all is_token_byte word ≡ true → IsToken word
token word some test = (some, AllPass-from_test is_token_byte word test)

pub type-back : IsReadBack content_type
unfolding is_token_byte
type-back =
    back (codes "CONTENT-TYPE") (codes "text/xml; charset=\"utf-8\"") (token (codes "CONTENT-TYPE") (omega arith) refl) refl refl
    (AllPass-from_test is_value_byte (codes "text/xml; charset=\"utf-8\"") refl) refl refl

-- ---- replies

pub answer-fields-back : (reset : Option (List ℕ)) → CanBeToken reset → All IsReadBack (answer_fields reset)
unfolding is_token_byte
answer-fields-back None can = All-from_recursion IsReadBack (content_type ∷ []) (type-back, tt)
answer-fields-back (Some reset) can =
    All-from_recursion IsReadBack (answer_fields (Some reset)) (
      type-back,
      (visible-back (codes "CDS-RESET-TOKEN") reset (token (codes "CDS-RESET-TOKEN") (omega arith) refl) refl refl (token-visible reset can).visible, tt),
    )

pub few-answer-fields : (reset : Option (List ℕ)) → length (answer_fields reset) ≤ 2
few-answer-fields None = omega arith
few-answer-fields (Some reset) = omega arith

pub answer-token : (reset : Option (List ℕ)) (count : ℕ)
    → option_map (λ value. value.bytes) (get (kept_fields (own_pairs ++ map given_pair (answer_fields reset) ++ last_pairs count)) (codes "cds-reset-token")) ≡ reset
answer-token None count = refl
answer-token (Some reset) count = refl

short-answer-fields : (reset : Option (List ℕ)) → CanBeToken reset → length (field_lines (answer_fields reset)) ≤ 400
short-answer-fields None can =
    let a : length (field_lines (content_type ∷ [])) ≡ 41 = refl in
    omega (arith, a)
short-answer-fields (Some reset) can =
    let first = field_line (codes "CONTENT-TYPE") (codes "text/xml; charset=\"utf-8\"") in
    let second = field_line (codes "CDS-RESET-TOKEN") reset in
    let a = length-append first (second ++ []) in
    let b = length-append second [] in
    let c = length-line (codes "CDS-RESET-TOKEN") reset in
    let d : length first ≡ 41 = refl in
    let e : length (codes "CDS-RESET-TOKEN") ≡ 15 = refl in
    let short = (token-visible reset can).short in
    omega (arith, a, b, c, d, e, short)

short-status : (given : Answer) → length (status_line (answer_status given)) ≤ 40
unfolding digits
short-status (answer.Page result returned total update) = let a : length (status_line 200) ≡ 17 = refl in omega (arith, a)
short-status (answer.Number number) = let a : length (status_line 200) ≡ 17 = refl in omega (arith, a)
short-status (answer.Text text) = let a : length (status_line 200) ≡ 17 = refl in omega (arith, a)
short-status (answer.Fault code) = let a : length (status_line 500) ≡ 36 = refl in omega (arith, a)

pub short-reply : (given : Answer) (reset : Option (List ℕ)) (count : ℕ) → CanBeToken reset → count ≤ body_limit
    → length (reply_text (answer_status given) (answer_fields reset) count) ≤ head_limit
short-reply given reset count can h =
    let start = status_line (answer_status given) in
    let lines = field_lines (answer_fields reset) in
    let a = length-append ((start ++ own_lines) ++ lines) (last_lines count) in
    let b = length-append (start ++ own_lines) lines in
    let c = length-append start own_lines in
    let d : length own_lines ≡ 41 = refl in
    let e = short-status given in
    let f = short-answer-fields reset can in
    let g = short-last count h in
    omega (arith, a, b, c, d, e, f, g)

pub status-low : (given : Answer) → 100 ≤ answer_status given
status-low (answer.Page result returned total update) = omega arith
status-low (answer.Number number) = omega arith
status-low (answer.Text text) = omega arith
status-low (answer.Fault code) = omega arith

pub status-high : (given : Answer) → answer_status given < 1000
status-high (answer.Page result returned total update) = omega arith
status-high (answer.Number number) = omega arith
status-high (answer.Text text) = omega arith
status-high (answer.Fault code) = omega arith

-- ---- requests

host-back : (host : List ℕ) → IsTrue (is_host host) → IsReadBack (field (codes "HOST") host)
unfolding is_token_byte
host-back host is = visible-back (codes "HOST") host (token (codes "HOST") (omega arith) refl) refl refl (host-text-visible host is).visible

action-visible : (n : ActionName) → AreVisible (in_quotes (soap_action 4 n))
unfolding service_front service_type soap_action digits
action-visible name.Browse = visible-literal (in_quotes (soap_action 4 name.Browse)) refl
action-visible name.Search = visible-literal (in_quotes (soap_action 4 name.Search)) refl
action-visible name.GetSystemUpdateId = visible-literal (in_quotes (soap_action 4 name.GetSystemUpdateId)) refl
action-visible name.GetServiceResetToken = visible-literal (in_quotes (soap_action 4 name.GetServiceResetToken)) refl
action-visible name.GetSearchCapabilities = visible-literal (in_quotes (soap_action 4 name.GetSearchCapabilities)) refl
action-visible name.GetSortCapabilities = visible-literal (in_quotes (soap_action 4 name.GetSortCapabilities)) refl

short-action : (n : ActionName) → length (in_quotes (soap_action 4 n)) ≤ 100
unfolding service_front service_type soap_action digits
short-action name.Browse = within (length (in_quotes (soap_action 4 name.Browse))) 100 refl
short-action name.Search = within (length (in_quotes (soap_action 4 name.Search))) 100 refl
short-action name.GetSystemUpdateId = within (length (in_quotes (soap_action 4 name.GetSystemUpdateId))) 100 refl
short-action name.GetServiceResetToken = within (length (in_quotes (soap_action 4 name.GetServiceResetToken))) 100 refl
short-action name.GetSearchCapabilities = within (length (in_quotes (soap_action 4 name.GetSearchCapabilities))) 100 refl
short-action name.GetSortCapabilities = within (length (in_quotes (soap_action 4 name.GetSortCapabilities))) 100 refl

pub request-fields-back : (n : ActionName) (url : Parts) → IsTrue (is_host (host_in url)) → All IsReadBack (request_fields 4 n url)
unfolding is_token_byte
request-fields-back n url is =
    All-from_recursion IsReadBack (request_fields 4 n url) (
      host-back (host_in url) is,
      (type-back, (visible-back (codes "SOAPACTION") (in_quotes (soap_action 4 n)) (token (codes "SOAPACTION") (omega arith) refl) refl refl (action-visible n), tt)),
    )

pub request-host : (n : ActionName) (url : Parts) (count : ℕ)
    → option_map (λ value. value.bytes) (get (kept_fields (map given_pair (request_fields 4 n url) ++ last_pairs count)) (codes "host")) ≡ Some (host_in url)
request-host n url count = refl

pub request-action : (n : ActionName) (url : Parts) (count : ℕ)
    → soap_action_in (kept_fields (map given_pair (request_fields 4 n url) ++ last_pairs count)) ≡ Some (in_quotes (soap_action 4 n))
request-action n url count = refl

-- the target of an address without a query
abbrev target_by : List ℕ → Option (List ℕ) → List ℕ
target_by path query = path ++ (when (is_some query) (codes "?") ++ (unwrap_or query [] ++ []))

target-parts : (url : Parts) → target_in url ≡ target_by url.path url.query
target-parts url = refl

pub target-is : (url : Parts) → url.path ≡ codes "/control" → url.query ≡ None → target_in url ≡ codes "/control"
target-is url path none = target-parts url ∙ (λ i. target_by (path i) (none i))

pub short-request : (n : ActionName) (url : Parts) (count : ℕ) → IsTrue (is_host (host_in url)) → target_in url ≡ codes "/control" → count ≤ body_limit
    → length (request_text (codes "POST") (target_in url) (request_fields 4 n url) count) ≤ head_limit
short-request n url count is target h =
    let start = request_line (codes "POST") (target_in url) in
    let lines = field_lines (request_fields 4 n url) in
    let first = field_line (codes "HOST") (host_in url) in
    let second = field_line (codes "CONTENT-TYPE") (codes "text/xml; charset=\"utf-8\"") in
    let third = field_line (codes "SOAPACTION") (in_quotes (soap_action 4 n)) in
    let a = length-append (start ++ lines) (last_lines count) in
    let b = length-append start lines in
    let c = length-append first (second ++ (third ++ [])) in
    let d = length-append second (third ++ []) in
    let e = length-append third [] in
    let f = length-line (codes "HOST") (host_in url) in
    let g = length-line (codes "SOAPACTION") (in_quotes (soap_action 4 n)) in
    let i : length second ≡ 41 = refl in
    let j : length (codes "HOST") ≡ 4 = refl in
    let k : length (codes "SOAPACTION") ≡ 10 = refl in
    let l : length start ≡ 24 = ap (λ t. length (request_line (codes "POST") t)) target in
    let m = short-action n in
    let o = (host-text-visible (host_in url) is).short in
    let p = short-last count h in
    omega (arith, a, b, c, d, e, f, g, i, j, k, l, m, o, p)
