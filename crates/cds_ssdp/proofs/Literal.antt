-- A search that is given by its bytes.
use Rattle.std.proofs.Common.{◌≡◌, ℕ, ◌<◌, ◌≤◌, true, IsTrue, List, [], ◌∷◌, ◌++◌, length, map, codes, Some, Ok, refl, sym, arith, append-nil}
use Rattle.std.specs.List.{list_all}
use Rattle.std.proofs.lemmas.List.Elements.{All-cons, All-from_recursion}
use Rattle.std.proofs.lemmas.Str.{IsUtf8-from_ascii}
use Rattle.std.proofs.lemmas.Str.Ascii.{IsAscii-cons, IsAscii-nil}
use Rattle.http_header.proofs.TokenLemmas.{AllPass-from_test}
use Rattle.httparse.specs.Grammar as grammar
use Rattle.httparse.specs.Grammar.{crlf, IsField, IsRequestHead, RequestHead, is_token_byte, is_uri_byte, is_value_byte, print_request}
use Rattle.cds_http.specs.declared.message.Side.TheVariants.{Request as request_side}
use Rattle.cds_http.specs.declared.message.Start.TheVariants.{Request}
use Rattle.cds_http.specs.declared.message.Message.{Message}
use Rattle.cds_http.specs.Framing.{framing_of, unframed}
use Rattle.cds_http.specs.Head.{field_limit, field_pair, head_limit, kept_fields}
use Rattle.cds_http.proofs.Backwards.{spelled_is_whole}
use Rattle.cds_http.proofs.Visible.{token}
use Rattle.cds_ssdp.specs.Messages.{IsMessageIn}
use Rattle.cds_ssdp.proofs.Begun.{of-whole}

abbrev pub message_of : RequestHead → Message
message_of h = record { start = Request h.method h.target; fields = kept_fields (map field_pair h.fields); body = [] }

-- bytes that begin with a head and have no body begin with this message
begins : (h : RequestHead) (rest : List ℕ) → IsRequestHead h → length h.fields ≤ field_limit → length (print_request h) ≤ head_limit
    → framing_of request_side (kept_fields (map field_pair h.fields)) ≡ Ok (unframed request_side)
    → IsMessageIn request_side (print_request h ++ rest) (Some (message_of h))
begins h rest is few short framed =
    let text = print_request h in
    of-whole request_side (text ++ rest) (message_of h) rest (spelled_is_whole true request_side (text ++ rest) (message_of h) rest (record {
      front = text;
      text = [];
      bytes_are = refl;
      front_short = short;
      head = (h, (is, sym (append-nil text)), few, refl);
      framing = unframed request_side;
      framing_is = framed;
      body = (refl, refl);
    }))

-- ---- a search for a service

abbrev tree : List ℕ → List ℕ → grammar.Field
tree name value = record { name = name; raw = 32 ∷ value; end = crlf }

abbrev pub head_for : List ℕ → RequestHead
head_for asked = record {
  blank = [];
  method = codes "M-SEARCH";
  target = codes "*";
  minor = 1;
  line_end = crlf;
  fields = tree (codes "HOST") (codes "239.255.255.250:1900") ∷ tree (codes "MAN") (codes "\"ssdp:discover\"") ∷ tree (codes "MX") (codes "1")
      ∷ tree (codes "ST") asked ∷ [];
  last = crlf;
}

valid : (name value : List ℕ) → 0 < length name → list_all is_token_byte name ≡ true → list_all is_value_byte value ≡ true → IsField (tree name value)
valid name value some test bytes = record {
  name = token name some test;
  raw = All-cons (λ b. IsTrue (is_value_byte b)) 32 value refl (AllPass-from_test is_value_byte value bytes);
}

head-valid : (asked : List ℕ) → list_all is_value_byte asked ≡ true → IsRequestHead (head_for asked)
unfolding is_token_byte
head-valid asked bytes = record {
  method = token (codes "M-SEARCH") (omega arith) refl;
  target = (omega arith, AllPass-from_test is_uri_byte (codes "*") refl);
  target_text = IsUtf8-from_ascii (codes "*") (IsAscii-cons 42 [] (omega arith) IsAscii-nil);
  minor = omega arith;
  fields = All-from_recursion IsField (head_for asked).fields (
    valid (codes "HOST") (codes "239.255.255.250:1900") (omega arith) refl refl,
    (
      valid (codes "MAN") (codes "\"ssdp:discover\"") (omega arith) refl refl,
      (valid (codes "MX") (codes "1") (omega arith) refl refl, (valid (codes "ST") asked (omega arith) refl bytes, tt)),
    ),
  );
}

pub search-there : (asked rest : List ℕ) → list_all is_value_byte asked ≡ true → length (print_request (head_for asked)) ≤ head_limit
    → IsMessageIn request_side (print_request (head_for asked) ++ rest) (Some (message_of (head_for asked)))
search-there asked rest bytes short = begins (head_for asked) rest (head-valid asked bytes) (omega arith) short refl
