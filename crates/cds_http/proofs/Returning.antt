-- What is written is read back.
use Rattle.std.proofs.Common.{◌≡◌, ◌≢◌, ℕ, ◌<◌, ◌≤◌, ◌==◌, Bool, true, false, IsTrue, All, List, [], ◌∷◌, ◌++◌, length, map, reverse, get_or, bytes_eq, codes, Some, Ok, if◌then◌else◌, refl, sym, ap, ◌∙◌, subst, arith, append_assoc}
use Rattle.std.proofs.Common.{length-append}
use Rattle.std.specs.List.{flat_map, list_all}
use Rattle.std.specs.Fmt.{decimal}
use Rattle.std.specs.Str.Parse.{digits_value}
use Rattle.std.proofs.lemmas.Fmt.{decimal_is_IsNumeral}
use Rattle.std.proofs.lemmas.List.{append-nil, map-append, length-map}
use Rattle.std.proofs.lemmas.List.Concat.{flat_map-append}
use Rattle.std.proofs.lemmas.List.Sums.{fold-append}
use Rattle.std.proofs.lemmas.List.Elements.{All-head, All-tail, All-nil, All-cons, All-append}
use Rattle.std.proofs.lemmas.Slice.Eq.{bytes_eq-Decides}
use Rattle.httparse.specs.Grammar as grammar
use Rattle.httparse.specs.Grammar.{LineEnd, crlf, AllPass, IsField, IsToken, is_token_byte, is_uri_byte, is_value_byte, is_ows, skip_ows, trim_ows, field_value, print_field, print_section, print_version, RequestHead, print_request, ResponseHead, print_response}
use Rattle.httparse.proofs.TrimLemmas.{trim_ows_space}
use Rattle.http_header.specs.HeaderMap.{Entries, append, append_all, get_all}
use Rattle.http_header.proofs.HeaderMapLemmas.{get_all-append_same, get_all-append_other}
use Rattle.http_header.proofs.TokenLemmas.{AllPass-from_test}
use Rattle.http_header.specs.FieldValue.{FieldValue, plain_value}
use Rattle.http_header.specs.Token.{lowercase}
use Rattle.cds_http.specs.declared.fields.Field.{Field}
use Rattle.cds_http.specs.declared.message.Side.{Side}
use Rattle.cds_http.specs.declared.message.Side.TheVariants.{Request, Reply}
use Rattle.cds_http.specs.declared.message.Start.{Start}
use Rattle.cds_http.specs.declared.message.Start.TheVariants.{Request as request_start, Reply as reply_start}
use Rattle.cds_http.specs.declared.framing.Framing.TheVariants.{Counted}
use Rattle.cds_http.specs.Known.{Whole}
use Rattle.cds_http.specs.Head.{head_limit, field_limit, kept_field, kept_fields, field_pair, IsHead}
use Rattle.cds_http.specs.Framing.{body_limit, framing_by, framing_of}
use Rattle.cds_http.specs.Decided.{Decides}
use Rattle.cds_http.specs.Written.{line_break, field_line, field_lines, request_line, reason_of, status_line, own_lines, request_text, reply_text}
use Rattle.cds_http.specs.Returned.{IsReadBack, given_pair, last_pairs, own_pairs, RequestsAreReadBack, RepliesAreReadBack}
use Rattle.cds_http.proofs.Numerals.{decimal-digits, decimal-framing, digit_value_byte, no_front, no_back, three_digits}
use Rattle.cds_http.proofs.Backwards.{spelled_is_whole}

-- a field of the grammar that is written so and means this
pub record Tells (t : grammar.Field) (pair : List ℕ × List ℕ) (text : List ℕ) : Type 0 where
  pub valid : IsField t
  pub means : field_pair t ≡ pair
  pub prints : print_field t ≡ text

tree : List ℕ → List ℕ → grammar.Field
tree name value = record { name = name; raw = 32 ∷ value; end = crlf }

told : (name value : List ℕ) → IsToken name → AllPass is_value_byte value → skip_ows value ≡ value → skip_ows (reverse value) ≡ reverse value
    → Tells (tree name value) (name, value) (field_line name value)
unfolding tree
told name value token bytes front back = record {
  valid = record { name = token; raw = All-cons (λ b. IsTrue (is_value_byte b)) 32 value refl bytes };
  means = ap (λ (v : List ℕ). (name, v)) (trim_ows_space value front back);
  prints = ap (λ (t : List ℕ). t ++ line_break) (sym (append_assoc name (58 ∷ 32 ∷ []) value));
}

token_of : (name : List ℕ) → 0 < length name → list_all is_token_byte name ≡ true → IsToken name
token_of name some test = (some, AllPass-from_test is_token_byte name test)

told_length : (n : ℕ) → n ≤ body_limit → Tells (tree (codes "CONTENT-LENGTH") (decimal n)) (codes "CONTENT-LENGTH", decimal n) (field_line (codes "CONTENT-LENGTH") (decimal n))
unfolding is_token_byte
told_length n h =
    let d = (decimal-digits n (omega (arith, h))).plain in
    told (codes "CONTENT-LENGTH") (decimal n) (token_of (codes "CONTENT-LENGTH") (omega arith) refl)
    (λ k e within. digit_value_byte (get_or (decimal n) k e) (d k e within)) (no_front (decimal n) d) (no_back (decimal n) d)

told_close : Tells (tree (codes "CONNECTION") (codes "close")) (codes "CONNECTION", codes "close") (field_line (codes "CONNECTION") (codes "close"))
unfolding is_token_byte
told_close =
    told (codes "CONNECTION") (codes "close") (token_of (codes "CONNECTION") (omega arith) refl) (AllPass-from_test is_value_byte (codes "close") refl) refl refl

told_server : Tells (tree (codes "SERVER") (codes "unix/1.0 UPnP/2.0 cds/1.0")) (codes "SERVER", codes "unix/1.0 UPnP/2.0 cds/1.0")
    (field_line (codes "SERVER") (codes "unix/1.0 UPnP/2.0 cds/1.0"))
unfolding is_token_byte
told_server =
    told (codes "SERVER") (codes "unix/1.0 UPnP/2.0 cds/1.0") (token_of (codes "SERVER") (omega arith) refl)
    (AllPass-from_test is_value_byte (codes "unix/1.0 UPnP/2.0 cds/1.0") refl) refl refl

ext : grammar.Field
ext = record { name = codes "EXT"; raw = []; end = crlf }

told_ext : Tells ext (codes "EXT", []) (codes "EXT:" ++ line_break)
unfolding ext is_token_byte trim_ows
told_ext = record {
  valid = record { name = token_of (codes "EXT") (omega arith) refl; raw = All-nil (λ b. IsTrue (is_value_byte b)) };
  means = refl;
  prints = refl;
}

told_given : (f : Field) → IsReadBack f → Tells (tree f.name f.value) (given_pair f) (field_line f.name f.value)
told_given f is = told f.name f.value is.name is.value is.front is.back

-- several fields
pub record Tell (ts : List grammar.Field) (pairs : List (List ℕ × List ℕ)) (text : List ℕ) : Type 0 where
  pub valid : All IsField ts
  pub means : map field_pair ts ≡ pairs
  pub prints : flat_map print_field ts ≡ text

tell_none : Tell [] [] []
tell_none = record { valid = All-nil IsField; means = refl; prints = refl }

tell_one : (t : grammar.Field) (pair : List ℕ × List ℕ) (text : List ℕ) (ts : List grammar.Field) (pairs : List (List ℕ × List ℕ)) (more : List ℕ)
    → Tells t pair text → Tell ts pairs more → Tell (t ∷ ts) (pair ∷ pairs) (text ++ more)
tell_one t pair text ts pairs more one rest = record {
  valid = All-cons IsField t ts one.valid rest.valid;
  means = ap (λ (p : List ℕ × List ℕ). p ∷ map field_pair ts) one.means ∙ ap (λ (l : List (List ℕ × List ℕ)). pair ∷ l) rest.means;
  prints = ap (λ (p : List ℕ). p ++ flat_map print_field ts) one.prints ∙ ap (λ (l : List ℕ). text ++ l) rest.prints;
}

tell_both : (xs ys : List grammar.Field) (ps qs : List (List ℕ × List ℕ)) (a b : List ℕ) → Tell xs ps a → Tell ys qs b → Tell (xs ++ ys) (ps ++ qs) (a ++ b)
tell_both xs ys ps qs a b one two = record {
  valid = All-append IsField xs ys one.valid two.valid;
  means = map-append field_pair xs ys ∙ ap (λ (l : List (List ℕ × List ℕ)). l ++ map field_pair ys) one.means ∙ ap (λ (l : List (List ℕ × List ℕ)). ps ++ l) two.means;
  prints = flat_map-append print_field xs ys ∙ ap (λ (l : List ℕ). l ++ flat_map print_field ys) one.prints ∙ ap (λ (l : List ℕ). a ++ l) two.prints;
}

trees : List Field → List grammar.Field
trees fields = map (λ f. tree f.name f.value) fields

tell_given : (fields : List Field) → All IsReadBack fields → Tell (trees fields) (map given_pair fields) (field_lines fields)
unfolding trees
tell_given [] all = tell_none
tell_given (f ∷ fields) all =
    tell_one (tree f.name f.value) (given_pair f) (field_line f.name f.value) (trees fields) (map given_pair fields) (field_lines fields)
    (told_given f (All-head IsReadBack f fields all)) (tell_given fields (All-tail IsReadBack f fields all))

last_trees : ℕ → List grammar.Field
last_trees n = tree (codes "CONTENT-LENGTH") (decimal n) ∷ tree (codes "CONNECTION") (codes "close") ∷ []

last_text : ℕ → List ℕ
last_text n = field_line (codes "CONTENT-LENGTH") (decimal n) ++ field_line (codes "CONNECTION") (codes "close")

tell_last : (n : ℕ) → n ≤ body_limit → Tell (last_trees n) (last_pairs n) (last_text n)
unfolding last_trees last_text
tell_last n h =
    tell_one (tree (codes "CONTENT-LENGTH") (decimal n)) (codes "CONTENT-LENGTH", decimal n) (field_line (codes "CONTENT-LENGTH") (decimal n)) _ _ _ (told_length n h)
    (subst (Tell (tree (codes "CONNECTION") (codes "close") ∷ []) ((codes "CONNECTION", codes "close") ∷ [])) (append-nil (field_line (codes "CONNECTION") (codes "close")))
    (tell_one (tree (codes "CONNECTION") (codes "close")) (codes "CONNECTION", codes "close") (field_line (codes "CONNECTION") (codes "close")) [] [] [] told_close tell_none))

own_trees : List grammar.Field
own_trees = ext ∷ tree (codes "SERVER") (codes "unix/1.0 UPnP/2.0 cds/1.0") ∷ []

tell_own : Tell own_trees own_pairs own_lines
unfolding own_trees
tell_own =
    tell_one ext (codes "EXT", []) (codes "EXT:" ++ line_break) _ _ _ told_ext
    (subst (Tell (tree (codes "SERVER") (codes "unix/1.0 UPnP/2.0 cds/1.0") ∷ []) ((codes "SERVER", codes "unix/1.0 UPnP/2.0 cds/1.0") ∷ []))
    (append-nil (field_line (codes "SERVER") (codes "unix/1.0 UPnP/2.0 cds/1.0")))
    (tell_one (tree (codes "SERVER") (codes "unix/1.0 UPnP/2.0 cds/1.0")) (codes "SERVER", codes "unix/1.0 UPnP/2.0 cds/1.0") (field_line (codes "SERVER") (codes "unix/1.0 UPnP/2.0 cds/1.0")) [] [] [] told_server tell_none))

-- names that are not a given one
differs : (a b : List ℕ) → bytes_eq a b ≡ false → a ≢ b
differs a b apart same =
    let yes : bytes_eq a b ≡ true = (bytes_eq-Decides a b).1 same in
    let both : false ≡ true = sym apart ∙ yes in cc

absent : (m : Entries FieldValue) (pairs : List (List ℕ × List ℕ)) (name : List ℕ) → All (λ p. lowercase p.0 ≢ name) pairs
    → get_all (append_all m (map kept_field pairs)) name ≡ get_all m name
absent m [] name all = refl
absent m (p ∷ pairs) name all =
    absent (append m (lowercase p.0) (plain_value p.1)) pairs name (All-tail (λ p. lowercase p.0 ≢ name) p pairs all)
    ∙ get_all-append_other m (lowercase p.0) name (plain_value p.1) (All-head (λ p. lowercase p.0 ≢ name) p pairs all)

kept_both : (ps qs : List (List ℕ × List ℕ)) → kept_fields (ps ++ qs) ≡ append_all (kept_fields ps) (map kept_field qs)
kept_both ps qs =
    ap (append_all []) (map-append kept_field ps qs)
    ∙ fold-append (λ (n : Entries FieldValue) (item : List ℕ × FieldValue). append n item.0 item.1) [] (map kept_field ps) (map kept_field qs)

-- CONTENT-LENGTH stands once, and TRANSFER-ENCODING nowhere
framed : (side : Side) (pairs : List (List ℕ × List ℕ)) (n : ℕ) → n ≤ body_limit → All (λ p. lowercase p.0 ≢ codes "content-length") pairs
    → All (λ p. lowercase p.0 ≢ codes "transfer-encoding") pairs → framing_of side (kept_fields (pairs ++ last_pairs n)) ≡ Ok (Counted n)
framed side pairs n fits no_length no_coding =
    let m = kept_fields pairs in
    let size = plain_value (decimal n) in
    let with_size = append m (codes "content-length") size in
    let all = kept_both pairs (last_pairs n) in
    let one : get_all (kept_fields (pairs ++ last_pairs n)) (codes "content-length") ≡ size ∷ [] =
    ap (λ (f : Entries FieldValue). get_all f (codes "content-length")) all
    ∙ get_all-append_other with_size (codes "connection") (codes "content-length") (plain_value (codes "close")) (differs (codes "connection") (codes "content-length") refl)
    ∙ get_all-append_same m (codes "content-length") size
    ∙ ap (λ (l : List FieldValue). l ++ size ∷ []) (absent [] pairs (codes "content-length") no_length) in
    let none : get_all (kept_fields (pairs ++ last_pairs n)) (codes "transfer-encoding") ≡ [] =
    ap (λ (f : Entries FieldValue). get_all f (codes "transfer-encoding")) all
    ∙ get_all-append_other with_size (codes "connection") (codes "transfer-encoding") (plain_value (codes "close")) (differs (codes "connection") (codes "transfer-encoding") refl)
    ∙ get_all-append_other m (codes "content-length") (codes "transfer-encoding") size (differs (codes "content-length") (codes "transfer-encoding") refl)
    ∙ absent [] pairs (codes "transfer-encoding") no_coding in
    ap (λ (l : List FieldValue). framing_by side l (get_all (kept_fields (pairs ++ last_pairs n)) (codes "transfer-encoding"))) one
    ∙ ap (framing_by side (size ∷ [])) none
    ∙ decimal-framing n fits

given_length : (fields : List Field) → All IsReadBack fields → All (λ p. lowercase p.0 ≢ codes "content-length") (map given_pair fields)
given_length [] all = All-nil (λ p. lowercase p.0 ≢ codes "content-length")
given_length (f ∷ fields) all =
    All-cons (λ p. lowercase p.0 ≢ codes "content-length") (given_pair f) (map given_pair fields) (All-head IsReadBack f fields all).no_length
    (given_length fields (All-tail IsReadBack f fields all))

given_coding : (fields : List Field) → All IsReadBack fields → All (λ p. lowercase p.0 ≢ codes "transfer-encoding") (map given_pair fields)
given_coding [] all = All-nil (λ p. lowercase p.0 ≢ codes "transfer-encoding")
given_coding (f ∷ fields) all =
    All-cons (λ p. lowercase p.0 ≢ codes "transfer-encoding") (given_pair f) (map given_pair fields) (All-head IsReadBack f fields all).no_coding
    (given_coding fields (All-tail IsReadBack f fields all))

-- the text of a message of a head and a counted body is one
whole_of : (ended : Bool) (side : Side) (front body more : List ℕ) (start : Start) (pairs : List (List ℕ × List ℕ)) → IsHead side front (record { start = start; fields = kept_fields (pairs ++ last_pairs (length body)) })
    → length front ≤ head_limit → framing_of side (kept_fields (pairs ++ last_pairs (length body))) ≡ Ok (Counted (length body))
    → Decides ended side ((front ++ body) ++ more) (Whole (record { start = start; fields = kept_fields (pairs ++ last_pairs (length body)); body = body }) more)
whole_of ended side front body more start pairs head short rule =
    spelled_is_whole ended side ((front ++ body) ++ more) (record { start = start; fields = kept_fields (pairs ++ last_pairs (length body)); body = body }) more
    (record {
      front = front;
      text = body;
      bytes_are = append_assoc front body more;
      front_short = short;
      head = head;
      framing = Counted (length body);
      framing_is = rule;
      body = (refl, refl);
    })

few : (ts : List grammar.Field) (pairs : List (List ℕ × List ℕ)) (text : List ℕ) → Tell ts pairs text → length pairs ≤ field_limit → length ts ≤ field_limit
few ts pairs text tell room = omega (arith, length-map ts field_pair, ap length tell.means, room)

end_of_head : (start given last : List ℕ) → start ++ ((given ++ last) ++ line_break) ≡ start ++ given ++ (last ++ line_break)
end_of_head start given last = ap (λ (t : List ℕ). start ++ t) (append_assoc given last line_break) ∙ sym (append_assoc start given (last ++ line_break))

pub requests_are_read_back : RequestsAreReadBack
unfolding print_request last_text
requests_are_read_back method target fields body more ended token uri text all room short fits =
    let n = length body in
    let given = tell_given fields all in
    let tell = tell_both (trees fields) (last_trees n) (map given_pair fields) (last_pairs n) (field_lines fields) (last_text n) given (tell_last n fits) in
    let pairs = map given_pair fields ++ last_pairs n in
    let h : RequestHead = record { blank = []; method = method; target = target; minor = 1; line_end = crlf; fields = trees fields ++ last_trees n; last = crlf } in
    let prints : print_request h ≡ request_text method target fields n =
    ap (λ (t : List ℕ). (t ++ codes " HTTP/1.1" ++ line_break) ++ (flat_map print_field (trees fields ++ last_trees n) ++ line_break)) (sym (append_assoc method (codes " ") target))
    ∙ ap (λ (t : List ℕ). request_line method target ++ (t ++ line_break)) tell.prints
    ∙ end_of_head (request_line method target) (field_lines fields) (last_text n) in
    let head : IsHead Request (request_text method target fields n) (record { start = request_start method target; fields = kept_fields pairs }) = (
      h,
      (record { method = token; target = uri; target_text = text; minor = omega arith; fields = tell.valid }, sym (append-nil (print_request h) ∙ prints)),
      few (trees fields ++ last_trees n) pairs (field_lines fields ++ last_text n) tell
          (omega (arith, length-append (map given_pair fields) (last_pairs n), length-map fields given_pair, room)),
      ap (λ (l : List (List ℕ × List ℕ)). record { start = request_start method target; fields = kept_fields l }) (sym tell.means),
    ) in
    whole_of ended Request (request_text method target fields n) body more (request_start method target) (map given_pair fields) head short
    (framed Request (map given_pair fields) n fits (given_length fields all) (given_coding fields all))

pick : (P : List ℕ → Type 0) (b : Bool) (x y : List ℕ) → P x → P y → P (if b then x else y)
pick P true x y p q = p
pick P false x y p q = q

reason_bytes : (status : ℕ) → AllPass is_value_byte (reason_of status)
reason_bytes status =
    let P : List ℕ → Type 0 = AllPass is_value_byte in
    let read = λ (text : List ℕ) (h : list_all is_value_byte text ≡ true). AllPass-from_test is_value_byte text h in
    pick P (status == 200) _ _ (read (codes "OK") refl)
    (pick P (status == 206) _ _ (read (codes "Partial Content") refl)
    (pick P (status == 400) _ _ (read (codes "Bad Request") refl)
    (pick P (status == 404) _ _ (read (codes "Not Found") refl)
    (pick P (status == 405) _ _ (read (codes "Method Not Allowed") refl)
    (pick P (status == 412) _ _ (read (codes "Precondition Failed") refl)
    (pick P (status == 413) _ _ (read (codes "Content Too Large") refl)
    (pick P (status == 416) _ _ (read (codes "Range Not Satisfiable") refl)
    (pick P (status == 500) _ _ (read (codes "Internal Server Error") refl)
    (pick P (status == 503) _ _ (read (codes "Service Unavailable") refl)
    (All-nil (λ b. IsTrue (is_value_byte b))))))))))))

own_absent : (name : List ℕ) → bytes_eq (codes "ext") name ≡ false → bytes_eq (codes "server") name ≡ false → All (λ p. lowercase p.0 ≢ name) own_pairs
own_absent name first second =
    All-cons (λ p. lowercase p.0 ≢ name) (codes "EXT", []) ((codes "SERVER", codes "unix/1.0 UPnP/2.0 cds/1.0") ∷ []) (differs (codes "ext") name first)
    (All-cons (λ p. lowercase p.0 ≢ name) (codes "SERVER", codes "unix/1.0 UPnP/2.0 cds/1.0") [] (differs (codes "server") name second) (All-nil (λ p. lowercase p.0 ≢ name)))

pub replies_are_read_back : RepliesAreReadBack
unfolding print_response last_text
replies_are_read_back status fields body more ended low high all room short fits =
    let n = length body in
    let pairs = own_pairs ++ map given_pair fields in
    let front = tell_both own_trees (trees fields) own_pairs (map given_pair fields) own_lines (field_lines fields) tell_own (tell_given fields all) in
    let ts = (own_trees ++ trees fields) ++ last_trees n in
    let tell = tell_both (own_trees ++ trees fields) (last_trees n) pairs (last_pairs n) (own_lines ++ field_lines fields) (last_text n) front (tell_last n fits) in
    let digits = decimal-digits status (omega (arith, high)) in
    let h : ResponseHead = record { blank = []; minor = 1; digits = decimal status; reason = Some (reason_of status); line_end = crlf; fields = ts; last = crlf } in
    let prints : print_response h ≡ reply_text status fields n =
    ap (λ (t : List ℕ). (t ++ line_break) ++ (flat_map print_field ts ++ line_break)) (sym (append_assoc (codes "HTTP/1.1 " ++ decimal status) (codes " ") (reason_of status)))
    ∙ ap (λ (t : List ℕ). status_line status ++ (t ++ line_break)) tell.prints
    ∙ end_of_head (status_line status) (own_lines ++ field_lines fields) (last_text n)
    ∙ ap (λ (t : List ℕ). t ++ (last_text n ++ line_break)) (sym (append_assoc (status_line status) own_lines (field_lines fields))) in
    let code : digits_value 10 (decimal status) ≡ status = (decimal_is_IsNumeral status (omega (arith, high))).1 in
    let head : IsHead Reply (reply_text status fields n) (record { start = reply_start status; fields = kept_fields (pairs ++ last_pairs n) }) = (
      h,
      (
        record { minor = omega arith; digits = (three_digits status low high, digits.plain); reason = reason_bytes status; fields = tell.valid },
        sym (append-nil (print_response h) ∙ prints),
      ),
      few ts (pairs ++ last_pairs n) ((own_lines ++ field_lines fields) ++ last_text n) tell
          (omega (arith, length-append pairs (last_pairs n), length-append own_pairs (map given_pair fields), length-map fields given_pair, room)),
      ap (λ (l : List (List ℕ × List ℕ)). record { start = reply_start status; fields = kept_fields l }) (sym tell.means)
          ∙ ap (λ (k : ℕ). record { start = reply_start k; fields = kept_fields (map field_pair ts) }) (sym code),
    ) in
    whole_of ended Reply (reply_text status fields n) body more (reply_start status) pairs head short
    (framed Reply pairs n fits
    (All-append (λ p. lowercase p.0 ≢ codes "content-length") own_pairs (map given_pair fields) (own_absent (codes "content-length") refl refl) (given_length fields all))
    (All-append (λ p. lowercase p.0 ≢ codes "transfer-encoding") own_pairs (map given_pair fields) (own_absent (codes "transfer-encoding") refl refl) (given_coding fields all)))
