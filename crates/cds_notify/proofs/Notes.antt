-- A written note is read back as it was written.
use Rattle.std.proofs.Common.{◌≡◌, ◌==◌, ◌≢◌, ℕ, suc, ◌<◌, ◌^◌, true, false, not, ◌&&◌, nat_lt, IsTrue, IsAscii, All, List, [], ◌∷◌, ◌++◌, length, take, drop, reverse, codes, bytes_eq, is_some, option_map, Option, Some, None, unwrap_or, Ok, refl, sym, ap, ◌∙◌, subst, ⊎_elim, arith, true≢false, length-append}
use Rattle.std.specs.List.{list_all}
use Rattle.std.specs.Fmt.{decimal}
use Rattle.std.proofs.lemmas.Bool.Decides.{nat_tests}
use Rattle.std.proofs.lemmas.List.Elements.{All-nil, All-from_recursion, All-head, All-tail, All-weaker}
use Rattle.std.proofs.lemmas.Str.{IsUtf8-from_ascii}
use Rattle.std.proofs.lemmas.Str.Ascii.{IsAscii-cons, IsAscii-nil}
use Rattle.std.proofs.lemmas.Slice.Eq.{bytes_eq-Decides}
use Rattle.httparse.specs.Grammar.{AllPass, IsToken, is_token, is_token_byte, is_uri_byte, is_value_byte, skip_ows}
use Rattle.http_header.proofs.TokenLemmas.{AllPass-from_test}
use Rattle.http_header.specs.Token.{lowercase}
use Rattle.percent_encoding.specs.declared.ascii_set.TheConstants.{CONTROLS}
use Rattle.percent_encoding.specs.Percent.{IsKept}
use Rattle.url.specs.declared.sets.TheConstants.{PATH, QUERY, SPECIAL_QUERY, FORBIDDEN_HOST, FORBIDDEN_DOMAIN}
use Rattle.url.specs.declared.scheme.SchemeType.{SchemeType}
use Rattle.url.specs.declared.scheme.SchemeType.TheVariants.{File, SpecialNotFile, NotSpecial}
use Rattle.url.specs.declared.host.Host.{Host}
use Rattle.url.specs.declared.host.Host.TheVariants.{Domain}
use Rattle.url.specs.Scheme.{is_special}
use Rattle.url.specs.Host.{host_text, IsHostOf}
use Rattle.url.specs.Input.{when}
use Rattle.url.specs.Parts.{Parts, kind_of, pieces, host_or_empty, query_set, IsValid, IsValidHead, IsPortOf, IsHierarchicalPath}
use Rattle.url.proofs.HostLemmas.{All-host_text}
use Rattle.url.proofs.PiecesLemmas.{option_cases}
use Rattle.url.proofs.SetLemmas.{passes_from_kept}
use Rattle.url.proofs.TextLemmas.{All-concat, All_one, All_part, host_and_port_bytes, is_host_byte}
use Rattle.url.proofs.ValidLemmas.{segment_list_kept, hierarchical, special_has_authority, base_from_authority}
use Rattle.cds_http.specs.Written.{CanBeWritten, can_stand}
use Rattle.cds_http.specs.Returned.{IsReadBack}
use Rattle.cds_http.proofs.Returning.{requests_are_read_back}
use Rattle.cds_gena.specs.declared.address.Address.{Address}
use Rattle.cds_gena.specs.SidText.{sid_text}
use Rattle.cds_gena.specs.Asked.{is_deliverable}
use Rattle.cds_gena.proofs.Delivered.{kind-is}
use Rattle.cds_gena.proofs.Served.{read-back}
use Rattle.cds_base.proofs.Plain.{decimal-read}
use Rattle.cds_base.specs.Number.{number_below}
use Rattle.cds_notify.specs.Notify.{host_of, target_of, field, note_fields}
use Rattle.cds_notify.specs.Propertyset.{propertyset_text}
use Rattle.cds_notify.specs.Said.{heading_of, named_note, with_seq}
use Rattle.cds_notify.specs.Laws.{note_message, NotesAreReadBack}
use Rattle.cds_notify.proofs.Bodies.{bodies-read}
use Rattle.cds_http.proofs.Visible.{AreVisible, Seen, is_visible, visible-literal, visible-decimal, all-stand, all-values, no-front, no-back}
use Rattle.cds_gena.proofs.Visible.{visible-sid}

-- ---- the fields can be written

above-stands : (b : ℕ) → is_host_byte b ≡ true → IsTrue (can_stand b)
above-stands b h = grind (arith, nat_tests)

host-stands : (url : Parts) → IsValid url → AllPass can_stand (host_of url)
host-stands url valid = All-weaker (λ b. is_host_byte b ≡ true) (λ b. IsTrue (can_stand b)) above-stands (host_of url) (host_and_port_bytes url valid.head)

test-of : (text : List ℕ) → AllPass can_stand text → list_all can_stand text ≡ true
test-of [] h = refl
test-of (b ∷ rest) h = ap (λ t. t && list_all can_stand rest) (h 0 0 (omega arith)) ∙ test-of rest (λ k d l. h (suc k) d (omega (arith, l)))

pub fields-can : (url : Parts) (name seq : ℕ) → IsValid url → seq < 2 ^ 32 → CanBeWritten (note_fields (host_of url) name seq)
unfolding is_token_byte
fields-can url name seq valid few =
    let h = test-of (host_of url) (host-stands url valid) in
    let s = all-stand (sid_text name) (visible-sid name) in
    let q = all-stand (decimal seq) (visible-decimal seq few) in
    λ i. (is_token (codes "HOST") && h i)
    && ((is_token (codes "CONTENT-TYPE") && list_all can_stand (codes "text/xml; charset=\"utf-8\""))
    && ((is_token (codes "NT") && list_all can_stand (codes "upnp:event"))
    && ((is_token (codes "NTS") && list_all can_stand (codes "upnp:propchange"))
    && ((is_token (codes "SID") && s i) && ((is_token (codes "SEQ") && q i) && true)))))

-- ---- the host and the target are visible

opaque-seen : (b : ℕ) → IsKept FORBIDDEN_HOST b → IsKept CONTROLS b → Seen b
opaque-seen b allowed visible =
    let mark = passes_from_kept FORBIDDEN_HOST (λ x. not (x == 32)) refl b allowed in
    let above = passes_from_kept CONTROLS (λ x. nat_lt 31 x && nat_lt x 127) refl b visible in
    grind (arith, nat_tests)

host-seen : (kind : SchemeType) (host : Host (List ℕ)) → IsHostOf kind host → All Seen (host_text host)
host-seen kind host =
    All-host_text Seen kind host (passes_from_kept FORBIDDEN_DOMAIN is_visible refl) opaque-seen (λ b digit. grind (arith, nat_tests)) (λ b hex. grind (arith, nat_tests)) refl refl

own-host-seen : (url : Parts) → IsValidHead url → All Seen (host_text (host_or_empty url))
own-host-seen url valid =
    let P = λ (o : Option (Host (List ℕ))). All Seen (host_text (unwrap_or o (Domain []))) in
    ⊎_elim (λ none. subst P (sym none) (All-nil Seen)) (λ some. subst P (sym some.1) (host-seen (kind_of url) some.0 (rw some.1 at valid.host))) (option_cases url.host)

port-seen : (scheme : List ℕ) (port : Option ℕ) → IsPortOf scheme port → All Seen (unwrap_or (option_map decimal port) [])
port-seen scheme None valid = All-nil Seen
port-seen scheme (Some n) valid = let low = valid.0 in visible-decimal n (omega (arith, low))

pub visible-host : (url : Parts) → IsValid url → AreVisible (host_of url)
visible-host url valid =
    All-concat Seen (take 3 (drop 6 (pieces url))) (own-host-seen url valid.head, (All_one Seen (is_some url.port) 58 refl, (port-seen url.scheme url.port valid.head.port, tt)))

query-seen : (kind : SchemeType) (b : ℕ) → IsKept (query_set kind) b → Seen b
query-seen File = passes_from_kept SPECIAL_QUERY is_visible refl
query-seen SpecialNotFile = passes_from_kept SPECIAL_QUERY is_visible refl
query-seen NotSpecial = passes_from_kept QUERY is_visible refl

segments : (url : Parts) → IsValid url → IsTrue (is_deliverable url) → IsHierarchicalPath (kind_of url) url.path
segments url valid can =
    let special : is_special (kind_of url) ≡ true = ap is_special (kind-is url can) in
    hierarchical url valid.path (base_from_authority url (special_has_authority url valid.head special))

pub visible-target : (url : Parts) → IsValid url → IsTrue (is_deliverable url) → AreVisible (target_of url)
visible-target url valid can =
    All-concat Seen (take 3 (drop 10 (pieces url))) (
      All-weaker (IsKept PATH) Seen (passes_from_kept PATH is_visible refl) url.path (segment_list_kept (kind_of url) url.path (segments url valid can).0),
      (All_one Seen (is_some url.query) 63 refl, (All_part Seen (query_set (kind_of url)) url.query (query-seen (kind_of url)) valid.query, tt)),
    )

some-target : (url : Parts) → IsValid url → IsTrue (is_deliverable url) → 0 < length (target_of url)
some-target url valid can =
    let some = (segments url valid can).1 (ap is_special (kind-is url can)) in
    let all = length-append url.path (when (is_some url.query) (codes "?") ++ (unwrap_or url.query [] ++ [])) in
    omega (arith, some, all)

seen-uri : (b : ℕ) → Seen b → IsTrue (is_uri_byte b)
seen-uri b h = grind (arith, nat_tests)

seen-small : (b : ℕ) → Seen b → b < 128
seen-small b h = grind (arith, nat_tests)

ascii : (text : List ℕ) → AreVisible text → IsAscii text
ascii [] h = IsAscii-nil
ascii (b ∷ rest) h = IsAscii-cons b rest (seen-small b (All-head Seen b rest h)) (ascii rest (All-tail Seen b rest h))

-- ---- the fields are read back

differ : (a b : List ℕ) → bytes_eq a b ≡ false → a ≢ b
differ a b e same = true≢false (sym ((bytes_eq-Decides a b).1 same) ∙ e)

back : (name value : List ℕ) → IsToken name → bytes_eq (lowercase name) (codes "content-length") ≡ false → bytes_eq (lowercase name) (codes "transfer-encoding") ≡ false
    → AllPass is_value_byte value → skip_ows value ≡ value → skip_ows (reverse value) ≡ reverse value → IsReadBack (field name value)
back name value token length coding bytes front last = record {
  name = token;
  no_length = differ (lowercase name) (codes "content-length") length;
  no_coding = differ (lowercase name) (codes "transfer-encoding") coding;
  value = bytes;
  front = front;
  back = last;
}

seen-back : (name value : List ℕ) → IsToken name → bytes_eq (lowercase name) (codes "content-length") ≡ false → bytes_eq (lowercase name) (codes "transfer-encoding") ≡ false
    → AreVisible value → IsReadBack (field name value)
seen-back name value token length coding seen = back name value token length coding (all-values value seen) (no-front value seen) (no-back value seen)

fields-back : (url : Parts) (name seq : ℕ) → IsValid url → seq < 2 ^ 32 → All IsReadBack (note_fields (host_of url) name seq)
unfolding is_token_byte
fields-back url name seq valid few =
    All-from_recursion IsReadBack (note_fields (host_of url) name seq) (
      seen-back (codes "HOST") (host_of url) (token (codes "HOST") (omega arith) refl) refl refl (visible-host url valid),
      (
        back (codes "CONTENT-TYPE") (codes "text/xml; charset=\"utf-8\"") (token (codes "CONTENT-TYPE") (omega arith) refl) refl refl
            (AllPass-from_test is_value_byte (codes "text/xml; charset=\"utf-8\"") refl) refl refl,
        (
          seen-back (codes "NT") (codes "upnp:event") (token (codes "NT") (omega arith) refl) refl refl (visible-literal (codes "upnp:event") refl),
          (
            seen-back (codes "NTS") (codes "upnp:propchange") (token (codes "NTS") (omega arith) refl) refl refl (visible-literal (codes "upnp:propchange") refl),
            (
              seen-back (codes "SID") (sid_text name) (token (codes "SID") (omega arith) refl) refl refl (visible-sid name),
              (seen-back (codes "SEQ") (decimal seq) (token (codes "SEQ") (omega arith) refl) refl refl (visible-decimal seq few), tt),
            ),
          ),
        ),
      ),
    )
  where
    token : (word : List ℕ) → 0 < length word → list_all is_token_byte word ≡ true → IsToken word
    token word some test = (some, AllPass-from_test is_token_byte word test)

method-token : IsToken (codes "NOTIFY")
unfolding is_token_byte
method-token = (omega arith, AllPass-from_test is_token_byte (codes "NOTIFY") refl)

-- ---- what the fields say

heading-computed : (url : Parts) (to : Address) (body : List ℕ)
    → heading_of (note_message url to body) ≡ with_seq (Some (codes "upnp:event")) (Some (codes "upnp:propchange")) (Some (sid_text to.sid.0)) (number_below (2 ^ 32) (decimal to.seq))
heading-computed url to body = refl

heading-is : (url : Parts) (to : Address) (body : List ℕ) → to.sid.0 < 2 ^ 128 → to.seq < 2 ^ 32 → heading_of (note_message url to body) ≡ Ok (record { sid = to.sid; seq = to.seq })
heading-is url to body short few =
    heading-computed url to body
    ∙ ap (with_seq (Some (codes "upnp:event")) (Some (codes "upnp:propchange")) (Some (sid_text to.sid.0))) (decimal-read (2 ^ 32) to.seq (omega arith) few)
    ∙ ap (named_note to.seq) (read-back to.sid.0 short)

pub notes-read : NotesAreReadBack
notes-read url to number containers events more ended valid can short few fit head body = (
  requests_are_read_back (codes "NOTIFY") (target_of url) (note_fields (host_of url) to.sid.0 to.seq) (propertyset_text number containers events) more ended
      method-token (some-target url valid can, All-weaker Seen (λ b. IsTrue (is_uri_byte b)) seen-uri (target_of url) (visible-target url valid can))
      (IsUtf8-from_ascii (target_of url) (ascii (target_of url) (visible-target url valid can)))
      (fields-back url to.sid.0 to.seq valid few) (omega arith) head body,
  record { heading = heading-is url to (propertyset_text number containers events) short few; body = bodies-read number containers events fit body },
)
