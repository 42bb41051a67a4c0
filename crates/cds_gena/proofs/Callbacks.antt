-- The address of a request and that of a callback: their texts are visible, and a CALLBACK is read as the address that stands in it.
use Rattle.std.proofs.Common.{◌≡◌, ◌==◌, ℕ, suc, ◌+◌, ◌<◌, Bool, true, false, cond, not, ◌&&◌, ◌||◌, nat_lt, IsTrue, IsAscii, All, List, [], ◌∷◌, ◌++◌, length, take, drop, codes, Option, Some, None, is_some, unwrap_or, option_map, option_and_then, refl, sym, ap, ◌∙◌, subst, ⊎_elim, arith, length-append}
use Rattle.std.specs.List.{list_all, position, prefix_len}
use Rattle.std.specs.Fmt.{decimal}
use Rattle.std.specs.Char.{is_ascii_digit}
use Rattle.std.proofs.lemmas.Bool.Decides.{nat_tests}
use Rattle.std.proofs.lemmas.List.{take_at}
use Rattle.std.proofs.lemmas.List.Elements.{All-nil, All-head, All-tail, All-weaker}
use Rattle.std.proofs.lemmas.Str.Ascii.{IsAscii-cons, IsAscii-nil}
use Rattle.httparse.specs.Grammar.{AllPass, is_uri_byte}
use Rattle.http_header.proofs.TokenLemmas.{AllPass-from_test}
use Rattle.percent_encoding.specs.declared.ascii_set.TheConstants.{CONTROLS}
use Rattle.percent_encoding.specs.Percent.{IsKept}
use Rattle.url.specs.declared.sets.TheConstants.{FRAGMENT, PATH, USERINFO, QUERY, SPECIAL_QUERY, FORBIDDEN_HOST, FORBIDDEN_DOMAIN}
use Rattle.url.specs.declared.scheme.SchemeType.{SchemeType}
use Rattle.url.specs.declared.scheme.SchemeType.TheVariants.{File, SpecialNotFile, NotSpecial}
use Rattle.url.specs.declared.host.Host.{Host}
use Rattle.url.specs.declared.host.Host.TheVariants.{Domain}
use Rattle.url.specs.Scheme.{is_scheme_byte, is_special}
use Rattle.url.specs.Host.{host_text, IsHostOf}
use Rattle.url.specs.Input.{is_empty, when}
use Rattle.url.specs.Parts.{Parts, kind_of, has_authority, has_credentials, needs_guard, pieces, host_or_empty, query_set, serialize, IsValid, IsValidHead, IsPortOf, IsHierarchicalPath}
use Rattle.url.proofs.InputLemmas.{Passes}
use Rattle.url.proofs.SchemeLemmas.{scheme_bytes}
use Rattle.url.proofs.HostLemmas.{All-host_text}
use Rattle.url.proofs.PiecesLemmas.{option_cases}
use Rattle.url.proofs.SetLemmas.{passes_from_kept}
use Rattle.url.proofs.TextLemmas.{All-concat, All_one, All_part}
use Rattle.url.proofs.ValidLemmas.{IsAscii-serialize, segment_list_kept, hierarchical, special_has_authority, base_from_authority}
use Rattle.cds_http.proofs.Numerals.{decimal-digits}
use Rattle.cds_gena.specs.Asked.{behind_spaces, callback_in, enclosed, is_deliverable, url_in}
use Rattle.cds_gena.specs.Written.{host_of, target_of, callback_text}
use Rattle.cds_gena.proofs.Delivered.{kind-is, own-url}
use Rattle.cds_http.proofs.Visible.{is_visible, Seen, AreVisible, visible-literal, visible-append}

-- ---- the bytes of an address are visible, and none is `>`

abbrev pub is_inner : ℕ → Bool
is_inner b = is_visible b && not (b == 62)

abbrev pub Inner : ℕ → Type 0
Inner b = IsTrue (is_inner b)

first-of : (a b : Bool) → (a && b) ≡ true → a ≡ true
first-of true b e = refl
first-of false b e = e

second-of : (a b : Bool) → (a && b) ≡ true → b ≡ true
second-of true b e = e
second-of false b e = let no : false ≡ true = e in cc

inner-seen : (text : List ℕ) → All Inner text → AreVisible text
inner-seen text h = All-weaker Inner Seen (λ b e. first-of (is_visible b) (not (b == 62)) e) text h

scheme-inner : (b : ℕ) → Passes is_scheme_byte b → Inner b
scheme-inner b h = grind (arith, nat_tests)

opaque-inner : (b : ℕ) → IsKept FORBIDDEN_HOST b → IsKept CONTROLS b → Inner b
opaque-inner b allowed visible =
    let mark = passes_from_kept FORBIDDEN_HOST (λ x. not (x == 32 || x == 62)) refl b allowed in
    let above = passes_from_kept CONTROLS (λ x. nat_lt 31 x && nat_lt x 127) refl b visible in
    grind (arith, nat_tests)

host-inner : (kind : SchemeType) (host : Host (List ℕ)) → IsHostOf kind host → All Inner (host_text host)
host-inner kind host =
    All-host_text Inner kind host (passes_from_kept FORBIDDEN_DOMAIN is_inner refl) opaque-inner (λ b digit. grind (arith, nat_tests)) (λ b hex. grind (arith, nat_tests)) refl refl

own-host-inner : (url : Parts) → IsValidHead url → All Inner (host_text (host_or_empty url))
own-host-inner url valid =
    let P = λ (o : Option (Host (List ℕ))). All Inner (host_text (unwrap_or o (Domain []))) in
    ⊎_elim (λ none. subst P (sym none) (All-nil Inner)) (λ some. subst P (sym some.1) (host-inner (kind_of url) some.0 (rw some.1 at valid.host))) (option_cases url.host)

digit-inner : (b : ℕ) → IsTrue (is_ascii_digit b) → Inner b
digit-inner b h = grind (arith, nat_tests)

port-inner : (scheme : List ℕ) (port : Option ℕ) → IsPortOf scheme port → All Inner (unwrap_or (option_map decimal port) [])
port-inner scheme None valid = All-nil Inner
port-inner scheme (Some n) valid =
    let low = valid.0 in All-weaker (λ b. IsTrue (is_ascii_digit b)) Inner digit-inner (decimal n) (decimal-digits n (omega (arith, low))).plain

query-inner : (kind : SchemeType) (b : ℕ) → IsKept (query_set kind) b → Inner b
query-inner File = passes_from_kept SPECIAL_QUERY is_inner refl
query-inner SpecialNotFile = passes_from_kept SPECIAL_QUERY is_inner refl
query-inner NotSpecial = passes_from_kept QUERY is_inner refl

segments : (url : Parts) → IsValid url → IsTrue (is_deliverable url) → IsHierarchicalPath (kind_of url) url.path
segments url valid can =
    let special : is_special (kind_of url) ≡ true = ap is_special (kind-is url can) in
    hierarchical url valid.path (base_from_authority url (special_has_authority url valid.head special))

path-inner : (url : Parts) → IsValid url → IsTrue (is_deliverable url) → All Inner url.path
path-inner url valid can =
    All-weaker (IsKept PATH) Inner (passes_from_kept PATH is_inner refl) url.path (segment_list_kept (kind_of url) url.path (segments url valid can).0)

either : (test : Bool) (a b : List ℕ) → All Inner a → All Inner b → All Inner (cond test a b)
either true a b h k = h
either false a b h k = k

literal : (text : List ℕ) → list_all is_inner text ≡ true → All Inner text
literal text e = AllPass-from_test is_inner text e

user-inner : (text : List ℕ) → All (IsKept USERINFO) text → All Inner text
user-inner text h = All-weaker (IsKept USERINFO) Inner (passes_from_kept USERINFO is_inner refl) text h

inner-address : (url : Parts) → IsValid url → IsTrue (is_deliverable url) → All Inner (serialize url)
inner-address url valid can =
    All-concat Inner (pieces url) (
      All-weaker (Passes is_scheme_byte) Inner scheme-inner url.scheme (scheme_bytes url.scheme valid.head.scheme),
      (
        either (has_authority url) (codes "://") (codes ":") (literal (codes "://") refl) (literal (codes ":") refl),
        (
          user-inner url.username valid.head.username,
          (
            All_one Inner (not (is_empty url.password)) 58 refl,
            (
              user-inner url.password valid.head.password,
              (
                All_one Inner (has_credentials url) 64 refl,
                (
                  own-host-inner url valid.head,
                  (
                    All_one Inner (is_some url.port) 58 refl,
                    (
                      port-inner url.scheme url.port valid.head.port,
                      (
                        either (needs_guard url) (codes "/.") [] (literal (codes "/.") refl) (All-nil Inner),
                        (
                          path-inner url valid can,
                          (
                            All_one Inner (is_some url.query) 63 refl,
                            (
                              All_part Inner (query_set (kind_of url)) url.query (query-inner (kind_of url)) valid.query,
                              (
                                All_one Inner (is_some url.fragment) 35 refl,
                                (All_part Inner FRAGMENT url.fragment (passes_from_kept FRAGMENT is_inner refl) valid.fragment, tt),
                              ),
                            ),
                          ),
                        ),
                      ),
                    ),
                  ),
                ),
              ),
            ),
          ),
        ),
      ),
    )

pub visible-callback : (callback : Parts) → IsValid callback → IsTrue (is_deliverable callback) → AreVisible (callback_text callback)
visible-callback callback valid can =
    visible-append (codes "<") (serialize callback ++ codes ">") (visible-literal (codes "<") refl)
    (visible-append (serialize callback) (codes ">") (inner-seen (serialize callback) (inner-address callback valid can)) (visible-literal (codes ">") refl))

-- ---- the host and the target

pub visible-host : (url : Parts) → IsValid url → AreVisible (host_of url)
visible-host url valid =
    inner-seen (host_of url) (All-concat Inner (take 3 (drop 6 (pieces url))) (
      own-host-inner url valid.head,
      (All_one Inner (is_some url.port) 58 refl, (port-inner url.scheme url.port valid.head.port, tt)),
    ))

pub visible-target : (url : Parts) → IsValid url → IsTrue (is_deliverable url) → AreVisible (target_of url)
visible-target url valid can =
    inner-seen (target_of url) (All-concat Inner (take 3 (drop 10 (pieces url))) (
      path-inner url valid can,
      (All_one Inner (is_some url.query) 63 refl, (All_part Inner (query_set (kind_of url)) url.query (query-inner (kind_of url)) valid.query, tt)),
    ))

some-target : (url : Parts) → IsValid url → IsTrue (is_deliverable url) → 0 < length (target_of url)
some-target url valid can =
    let some = (segments url valid can).1 (ap is_special (kind-is url can)) in
    let all = length-append url.path (when (is_some url.query) (codes "?") ++ (unwrap_or url.query [] ++ [])) in
    omega (arith, some, all)

seen-uri : (b : ℕ) → Seen b → IsTrue (is_uri_byte b)
seen-uri b h = grind (arith, nat_tests)

pub target-is : (url : Parts) → IsValid url → IsTrue (is_deliverable url) → (0 < length (target_of url)) × AllPass is_uri_byte (target_of url)
target-is url valid can = (some-target url valid can, All-weaker Seen (λ b. IsTrue (is_uri_byte b)) seen-uri (target_of url) (visible-target url valid can))

seen-small : (b : ℕ) → Seen b → b < 128
seen-small b h = grind (arith, nat_tests)

ascii : (text : List ℕ) → AreVisible text → IsAscii text
ascii [] h = IsAscii-nil
ascii (b ∷ rest) h = IsAscii-cons b rest (seen-small b (All-head Seen b rest h)) (ascii rest (All-tail Seen b rest h))

pub ascii-target : (url : Parts) → IsValid url → IsTrue (is_deliverable url) → IsAscii (target_of url)
ascii-target url valid can = ascii (target_of url) (visible-target url valid can)

-- ---- a CALLBACK is read as its address

one-more : (n : ℕ) → 1 + n ≡ suc n
one-more n = omega arith

closes : (text : List ℕ) → All Inner text → prefix_len (λ c. not (c == 62)) (text ++ 62 ∷ []) ≡ length text
closes [] h = refl
closes (b ∷ rest) h =
    ap (λ t. cond t (1 + prefix_len (λ c. not (c == 62)) (rest ++ 62 ∷ [])) 0) (second-of (is_visible b) (not (b == 62)) (All-head Inner b rest h))
    ∙ ap (λ n. 1 + n) (closes rest (All-tail Inner b rest h))
    ∙ one-more (length rest)

below : (a b : ℕ) → a < b → nat_lt a b ≡ true
below a b h = grind (arith, nat_tests)

closing : (text : List ℕ) → All Inner text → position (λ c. c == 62) (text ++ 62 ∷ []) ≡ Some (length text)
closing text h =
    let at = closes text h in
    let long = length-append text (62 ∷ []) in
    let inside : nat_lt (prefix_len (λ c. not (c == 62)) (text ++ 62 ∷ [])) (length (text ++ 62 ∷ [])) ≡ true
    = below (prefix_len (λ c. not (c == 62)) (text ++ 62 ∷ [])) (length (text ++ 62 ∷ [])) (omega (arith, at, long)) in
    ap (λ t. cond t (Some (prefix_len (λ c. not (c == 62)) (text ++ 62 ∷ []))) None) inside ∙ ap Some at

enclosed-back : (text : List ℕ) → All Inner text → enclosed (behind_spaces (codes "<" ++ text ++ codes ">")) ≡ Some text
enclosed-back text h =
    ap (option_map (λ at. take at (text ++ 62 ∷ []))) (closing text h) ∙ ap Some (take_at text (62 ∷ []) (length text) refl)

pub callback-back : (callback : Parts) → IsValid callback → IsTrue (is_deliverable callback) → callback_in (callback_text callback) ≡ Some callback
callback-back callback valid can =
    ap (option_and_then url_in) (enclosed-back (serialize callback) (inner-address callback valid can))
    ∙ own-url callback valid (IsAscii-serialize callback valid) can
