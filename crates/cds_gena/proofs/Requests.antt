-- Written requests about subscriptions: their fields can be written, and they are read as they were written.
use Rattle.std.proofs.Common.{◌≡◌, ℕ, ◌+◌, ◌≤◌, Bool, true, ◌&&◌, IsTrue, All, List, [], ◌++◌, length, map, codes, Some, refl, ap, ◌∙◌, arith}
use Rattle.std.specs.List.{list_all}
use Rattle.std.proofs.lemmas.List.Elements.{All-from_recursion}
use Rattle.std.proofs.lemmas.Str.{IsUtf8-from_ascii}
use Rattle.httparse.specs.Grammar.{IsToken, is_token, is_token_byte}
use Rattle.url.specs.Parts.{Parts, IsValid}
use Rattle.cds_http.specs.declared.fields.Field.{Field}
use Rattle.cds_http.specs.declared.message.Side.TheVariants.{Request}
use Rattle.cds_http.specs.declared.message.Start.TheVariants.{Request as of_request}
use Rattle.cds_http.specs.declared.message.Message.{Message}
use Rattle.cds_http.specs.Known.{Whole}
use Rattle.cds_http.specs.Head.{head_limit, field_limit, kept_fields}
use Rattle.cds_http.specs.Decided.{Decides}
use Rattle.cds_http.specs.Written.{CanBeWritten, can_stand, request_text, written_request}
use Rattle.cds_http.specs.Returned.{IsReadBack, given_pair, last_pairs}
use Rattle.cds_http.proofs.Returning.{requests_are_read_back}
use Rattle.cds_gena.specs.SidText.{sid_in, sid_text}
use Rattle.cds_gena.specs.Asked.{callback_in, ending, gena_of, is_deliverable, renewing, seconds_of, subscribing}
use Rattle.cds_gena.specs.Written.{callback_text, host_of, target_of, subscribe_fields, renewal_fields, unsubscribe_fields}
use Rattle.cds_gena.specs.WrittenLaws.{subscribes_are_read, renewals_are_read, unsubscribes_are_read}
use Rattle.cds_gena.proofs.Served.{read-back}
use Rattle.cds_http.proofs.Visible.{all-stand, token, visible-back, visible-literal}
use Rattle.cds_gena.proofs.Visible.{visible-sid}
use Rattle.cds_gena.proofs.Callbacks.{ascii-target, callback-back, target-is, visible-callback, visible-host}

-- ---- the fields can be written

pub subscribe-can : (url callback : Parts) → IsValid url → IsValid callback → IsTrue (is_deliverable callback) → CanBeWritten (subscribe_fields url callback)
unfolding is_token_byte
subscribe-can url callback valid sound can =
    let h = all-stand (host_of url) (visible-host url valid) in
    let k = all-stand (callback_text callback) (visible-callback callback sound can) in
    λ i. (is_token (codes "HOST") && h i)
    && ((is_token (codes "CALLBACK") && k i)
    && ((is_token (codes "NT") && list_all can_stand (codes "upnp:event"))
    && ((is_token (codes "TIMEOUT") && list_all can_stand (codes "Second-1800")) && true)))

pub unsubscribe-can : (url : Parts) (name : ℕ) → IsValid url → CanBeWritten (unsubscribe_fields url name)
unfolding is_token_byte
unsubscribe-can url name valid =
    let h = all-stand (host_of url) (visible-host url valid) in
    let s = all-stand (sid_text name) (visible-sid name) in
    λ i. (is_token (codes "HOST") && h i) && ((is_token (codes "SID") && s i) && true)

pub renewal-can : (url : Parts) (name : ℕ) → IsValid url → CanBeWritten (renewal_fields url name)
unfolding is_token_byte
renewal-can url name valid =
    let h = all-stand (host_of url) (visible-host url valid) in
    let s = all-stand (sid_text name) (visible-sid name) in
    λ i. (is_token (codes "HOST") && h i)
    && ((is_token (codes "SID") && s i) && ((is_token (codes "TIMEOUT") && list_all can_stand (codes "Second-1800")) && true))

-- ---- they are read back

host-back : (url : Parts) → IsValid url → IsReadBack (record { name = codes "HOST"; value = host_of url })
unfolding is_token_byte
host-back url valid = visible-back (codes "HOST") (host_of url) (token (codes "HOST") (omega arith) refl) refl refl (visible-host url valid)

pub sid-back : (name : ℕ) → IsReadBack (record { name = codes "SID"; value = sid_text name })
unfolding is_token_byte
sid-back name = visible-back (codes "SID") (sid_text name) (token (codes "SID") (omega arith) refl) refl refl (visible-sid name)

timeout-back : IsReadBack (record { name = codes "TIMEOUT"; value = codes "Second-1800" })
unfolding is_token_byte
timeout-back = visible-back (codes "TIMEOUT") (codes "Second-1800") (token (codes "TIMEOUT") (omega arith) refl) refl refl (visible-literal (codes "Second-1800") refl)

subscribe-back : (url callback : Parts) → IsValid url → IsValid callback → IsTrue (is_deliverable callback) → All IsReadBack (subscribe_fields url callback)
unfolding is_token_byte
subscribe-back url callback valid sound can =
    All-from_recursion IsReadBack (subscribe_fields url callback) (
      host-back url valid,
      (
        visible-back (codes "CALLBACK") (callback_text callback) (token (codes "CALLBACK") (omega arith) refl) refl refl (visible-callback callback sound can),
        (
          visible-back (codes "NT") (codes "upnp:event") (token (codes "NT") (omega arith) refl) refl refl (visible-literal (codes "upnp:event") refl),
          (timeout-back, tt),
        ),
      ),
    )

renewal-back : (url : Parts) (name : ℕ) → IsValid url → All IsReadBack (renewal_fields url name)
renewal-back url name valid = All-from_recursion IsReadBack (renewal_fields url name) (host-back url valid, (sid-back name, (timeout-back, tt)))

unsubscribe-back : (url : Parts) (name : ℕ) → IsValid url → All IsReadBack (unsubscribe_fields url name)
unsubscribe-back url name valid = All-from_recursion IsReadBack (unsubscribe_fields url name) (host-back url valid, (sid-back name, tt))

abbrev message_of : List ℕ → Parts → List Field → Message
message_of method url fields = record {
  start = of_request method (target_of url);
  fields = kept_fields (map given_pair fields ++ last_pairs 0);
  body = [];
}

whole-request : (method : List ℕ) (url : Parts) (fields : List Field) (more : List ℕ) (ended : Bool) → IsToken method → IsValid url → IsTrue (is_deliverable url)
    → All IsReadBack fields → length fields + 2 ≤ field_limit → length (request_text method (target_of url) fields 0) ≤ head_limit
    → Decides ended Request (written_request method (target_of url) fields [] ++ more) (Whole (message_of method url fields) more)
whole-request method url fields more ended named valid can back few short =
    requests_are_read_back method (target_of url) fields [] more ended named (target-is url valid can)
    (IsUtf8-from_ascii (target_of url) (ascii-target url valid can)) back few short (omega arith)

subscribes : IsToken (codes "SUBSCRIBE")
unfolding is_token_byte
subscribes = token (codes "SUBSCRIBE") (omega arith) refl

unsubscribes : IsToken (codes "UNSUBSCRIBE")
unfolding is_token_byte
unsubscribes = token (codes "UNSUBSCRIBE") (omega arith) refl

-- ---- what they ask for

half-hour : seconds_of (Some (codes "Second-1800")) ≡ 1800
half-hour = refl

subscribe-computed : (url callback : Parts)
    → gena_of (message_of (codes "SUBSCRIBE") url (subscribe_fields url callback)) ≡ subscribing (callback_in (callback_text callback)) (seconds_of (Some (codes "Second-1800")))
subscribe-computed url callback = refl

renewal-computed : (url : Parts) (name : ℕ)
    → gena_of (message_of (codes "SUBSCRIBE") url (renewal_fields url name)) ≡ renewing (sid_in (sid_text name)) (seconds_of (Some (codes "Second-1800")))
renewal-computed url name = refl

unsubscribe-computed : (url : Parts) (name : ℕ)
    → gena_of (message_of (codes "UNSUBSCRIBE") url (unsubscribe_fields url name)) ≡ ending (sid_in (sid_text name))
unsubscribe-computed url name = refl

pub subscribes-read : subscribes_are_read
subscribes-read url callback more ended valid can sound goes short = record {
  message = message_of (codes "SUBSCRIBE") url (subscribe_fields url callback);
  whole = whole-request (codes "SUBSCRIBE") url (subscribe_fields url callback) more ended subscribes valid can (subscribe-back url callback valid sound goes) (omega arith) short;
  start = refl;
  host = refl;
  of_subscription = refl;
  asks = subscribe-computed url callback
      ∙ ap (subscribing (callback_in (callback_text callback))) half-hour
      ∙ ap (λ o. subscribing o 1800) (callback-back callback sound goes);
}

pub renewals-read : renewals_are_read
renewals-read url sid more ended valid can few short = record {
  message = message_of (codes "SUBSCRIBE") url (renewal_fields url sid.0);
  whole = whole-request (codes "SUBSCRIBE") url (renewal_fields url sid.0) more ended subscribes valid can (renewal-back url sid.0 valid) (omega arith) short;
  start = refl;
  host = refl;
  of_subscription = refl;
  asks = renewal-computed url sid.0 ∙ ap (renewing (sid_in (sid_text sid.0))) half-hour ∙ ap (λ o. renewing o 1800) (read-back sid.0 few);
}

pub unsubscribes-read : unsubscribes_are_read
unsubscribes-read url sid more ended valid can few short = record {
  message = message_of (codes "UNSUBSCRIBE") url (unsubscribe_fields url sid.0);
  whole = whole-request (codes "UNSUBSCRIBE") url (unsubscribe_fields url sid.0) more ended unsubscribes valid can (unsubscribe-back url sid.0 valid) (omega arith) short;
  start = refl;
  host = refl;
  of_subscription = refl;
  asks = unsubscribe-computed url sid.0 ∙ ap ending (read-back sid.0 few);
}
