-- A written reply that grants a subscription is read as it was written.
use Rattle.std.proofs.Common.{◌≡◌, ◌==◌, ℕ, ◌+◌, ◌≤◌, Bool, true, false, cond, min, max, All, List, [], ◌++◌, length, map, codes, Option, None, option_map, option_and_then, refl, ap, ◌∙◌, arith, length-append, eqb-true}
use Rattle.std.specs.Fmt.{decimal, digits}
use Rattle.std.proofs.lemmas.Fmt.{length-decimal-le}
use Rattle.std.proofs.lemmas.List.Elements.{All-from_recursion}
use Rattle.httparse.specs.Grammar.{is_token_byte}
use Rattle.uuid.specs.Text.{hyphenated_text, lower}
use Rattle.uuid.proofs.TextLemmas.{by_index_length}
use Rattle.std.specs.Int.{w128, to_be_bytes}
use Rattle.cds_http.specs.declared.message.Start.TheVariants.{Reply as of_reply}
use Rattle.cds_http.specs.declared.message.Message.{Message}
use Rattle.cds_http.specs.Head.{head_limit, kept_fields}
use Rattle.cds_http.specs.Written.{line_break, field_line, field_lines, last_lines, own_lines, status_line, reply_text}
use Rattle.cds_http.specs.Returned.{IsReadBack, given_pair, last_pairs, own_pairs}
use Rattle.cds_http.proofs.Numerals.{decimal-digits}
use Rattle.cds_http.proofs.Returning.{replies_are_read_back}
use Rattle.cds_base.specs.Number.{value_in}
use Rattle.cds_gena.specs.declared.lease.Lease.{Lease}
use Rattle.cds_gena.specs.SidText.{sid_in, sid_text}
use Rattle.cds_gena.specs.Asked.{field_of, least_seconds, most_seconds, seconds_in, seconds_of}
use Rattle.cds_gena.specs.Leased.{has_status, lease_in, leased, only_field}
use Rattle.cds_gena.specs.Written.{lease_fields, timeout_text}
use Rattle.cds_gena.specs.WrittenLaws.{leases_are_read, others_grant_nothing}
use Rattle.cds_gena.proofs.Served.{read-back}
use Rattle.cds_http.proofs.Visible.{token, visible-back}
use Rattle.cds_gena.proofs.Visible.{visible-timeout}
use Rattle.cds_gena.proofs.Requests.{sid-back}

-- ---- the seconds are read

clamped : (n : ℕ) → 1800 ≤ n → n ≤ 86400 → max 1800 (min n 86400) ≡ n
clamped n low high = omega (arith, low, high)

seconds-back : (seconds : ℕ) → 1800 ≤ seconds → seconds ≤ 86400 → seconds_in (timeout_text seconds) ≡ seconds
seconds-back seconds low high =
    let d = decimal-digits seconds (omega (arith, high)) in
    ap (λ t. cond t (max least_seconds (min (value_in 10 (decimal seconds)) most_seconds)) least_seconds) d.some
    ∙ ap (λ v. max least_seconds (min v most_seconds)) d.value
    ∙ clamped seconds low high

-- ---- the head is short

length-line : (name value : List ℕ) → length (field_line name value) ≡ length name + length value + 4
length-line name value =
    let a = length-append ((name ++ codes ": ") ++ value) line_break in
    let b = length-append (name ++ codes ": ") value in
    let c = length-append name (codes ": ") in
    let d : length (codes ": ") ≡ 2 = refl in
    let e : length line_break ≡ 2 = refl in
    omega (arith, a, b, c, d, e)

long-sid : (name : ℕ) → length (sid_text name) ≡ 41
long-sid name =
    let a = length-append (codes "uuid:") (hyphenated_text lower (to_be_bytes w128 name)) in
    let b : length (hyphenated_text lower (to_be_bytes w128 name)) ≡ 36 = by_index_length 36 _ in
    let c : length (codes "uuid:") ≡ 5 = refl in
    omega (arith, a, b, c)

short-timeout : (seconds : ℕ) → seconds ≤ 86400 → length (timeout_text seconds) ≤ 17
short-timeout seconds high =
    let a = length-append (codes "Second-") (decimal seconds) in
    let b = length-decimal-le 10 seconds (omega arith) (omega (arith, high)) (omega (arith, high)) in
    let c : length (codes "Second-") ≡ 7 = refl in
    omega (arith, a, b, c)

short-fields : (name seconds : ℕ) → seconds ≤ 86400 → length (field_lines (lease_fields name seconds)) ≤ 80
short-fields name seconds high =
    let first = field_line (codes "SID") (sid_text name) in
    let second = field_line (codes "TIMEOUT") (timeout_text seconds) in
    let a = length-append first (second ++ []) in
    let b = length-append second [] in
    let c = length-line (codes "SID") (sid_text name) in
    let d = length-line (codes "TIMEOUT") (timeout_text seconds) in
    let e : length (codes "SID") ≡ 3 = refl in
    let f : length (codes "TIMEOUT") ≡ 7 = refl in
    let g = long-sid name in
    let h = short-timeout seconds high in
    omega (arith, a, b, c, d, e, f, g, h)

short-head : (name seconds : ℕ) → seconds ≤ 86400 → length (reply_text 200 (lease_fields name seconds) 0) ≤ head_limit
unfolding digits
short-head name seconds high =
    let lines = field_lines (lease_fields name seconds) in
    let a = length-append ((status_line 200 ++ own_lines) ++ lines) (last_lines 0) in
    let b = length-append (status_line 200 ++ own_lines) lines in
    let c = length-append (status_line 200) own_lines in
    let d : length (status_line 200) ≡ 17 = refl in
    let e : length own_lines ≡ 41 = refl in
    let f : length (last_lines 0) ≡ 40 = refl in
    let g = short-fields name seconds high in
    omega (arith, a, b, c, d, e, f, g)

-- ---- the lease

lease-back : (name seconds : ℕ) → seconds ≤ 86400 → All IsReadBack (lease_fields name seconds)
unfolding is_token_byte
lease-back name seconds high =
    All-from_recursion IsReadBack (lease_fields name seconds) (
      sid-back name,
      (visible-back (codes "TIMEOUT") (timeout_text seconds) (token (codes "TIMEOUT") (omega arith) refl) refl refl (visible-timeout seconds (omega (arith, high))), tt),
    )

abbrev message_of : ℕ → ℕ → Message
message_of name seconds = record {
  start = of_reply 200;
  fields = kept_fields (own_pairs ++ map given_pair (lease_fields name seconds) ++ last_pairs 0);
  body = [];
}

lease-computed : (name seconds : ℕ) → lease_in (message_of name seconds) ≡ option_map (leased (seconds_in (timeout_text seconds))) (sid_in (sid_text name))
lease-computed name seconds = refl

pub leases-read : leases_are_read
leases-read sid seconds more ended short low high = record {
  message = message_of sid.0 seconds;
  whole = replies_are_read_back 200 (lease_fields sid.0 seconds) [] more ended (omega arith) (omega arith) (lease-back sid.0 seconds high) (omega arith)
      (short-head sid.0 seconds high) (omega arith);
  grants = lease-computed sid.0 seconds
      ∙ ap (λ n. option_map (leased n) (sid_in (sid_text sid.0))) (seconds-back seconds low high)
      ∙ ap (option_map (leased seconds)) (read-back sid.0 short);
}

pub others-grant-nothing : others_grant_nothing
others-grant-nothing message status start other =
    ap (λ s. cond (has_status 200 s) granted None) start ∙ by (status == 200) refl
  where
    granted : Option Lease
    granted = option_map (leased (seconds_of (field_of (codes "timeout") message.fields))) (option_and_then sid_in (only_field (codes "sid") message.fields))

    by : (t : Bool) → (status == 200) ≡ t → cond t granted None ≡ None
    by true e = absurd (other (eqb-true status 200 e))
    by false e = refl
