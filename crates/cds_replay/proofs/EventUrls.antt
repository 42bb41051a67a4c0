-- The addresses of a script: what is asked about subscriptions at one, and notes go to the other.
use Rattle.std.proofs.Common.{◌≡◌, ◌≢◌, ◌⊎◌, inl, inr, ℕ, ◌<◌, ◌≤◌, ◌^◌, true, false, List, [], ◌∷◌, ◌++◌, Some, None, Ok, refl, sym, ◌∙◌, arith, true≢false}
use Rattle.std.specs.Prelude.{codes, slice_index}
use Rattle.std.proofs.lemmas.Bool.{cases_lt}
use Rattle.std.proofs.lemmas.List.{get_or_past}
use Rattle.std.proofs.lemmas.List.Elements.{All-nil, All-cons, All-from_recursion, All-get_or}
use Rattle.percent_encoding.specs.Percent.{IsKept}
use Rattle.url.specs.Parser.{parse_url}
use Rattle.url.specs.Parts.{Parts, IsValid, serialize}
use Rattle.url.specs.Path.{IsSegment}
use Rattle.url.specs.Scheme.{is_slash}
use Rattle.url.specs.declared.scheme.SchemeType.TheVariants.{SpecialNotFile}
use Rattle.url.specs.declared.sets.TheConstants.{USERINFO, PATH}
use Rattle.url.proofs.OnLiterals.{url_on_literals}
use Rattle.cds_gena.specs.Asked.{is_deliverable, url_in}
use Rattle.cds_gena.specs.Written.{host_of, target_of}
use Rattle.cds_script.specs.Script.{script_callback}
use Rattle.cds_replay.specs.Events.{local_url, event_url, callback_url}

event-parsed : parse_url None (codes "http://127.0.0.1:49152/event") ≡ Ok event_url
unfolding url_on_literals
event-parsed = refl

callback-parsed : parse_url None (codes "http://127.0.0.1:49153/notify") ≡ Ok callback_url
unfolding url_on_literals
callback-parsed = refl

pub event-is : (url : Parts) → parse_url None (codes "http://127.0.0.1:49152/event") ≡ Ok url → url ≡ event_url
event-is url is = let e : Ok event_url ≡ Ok url = sym event-parsed ∙ is in cc

pub callback-is : (url : Parts) → parse_url None (codes "http://127.0.0.1:49153/notify") ≡ Ok url → url ≡ callback_url
callback-is url is = let e : Ok callback_url ≡ Ok url = sym callback-parsed ∙ is in cc

pub event-goes : is_deliverable event_url ≡ true
event-goes = refl

pub callback-goes : is_deliverable callback_url ≡ true
callback-goes = refl

-- ---- their texts

pub event-target : target_of event_url ≡ codes "/event"
unfolding url_on_literals
event-target = refl

pub event-host : host_of event_url ≡ codes "127.0.0.1:49152"
unfolding url_on_literals
event-host = refl

pub callback-target : target_of callback_url ≡ codes "/notify"
unfolding url_on_literals
callback-target = refl

pub callback-host : host_of callback_url ≡ codes "127.0.0.1:49153"
unfolding url_on_literals
callback-host = refl

pub callback-text : serialize callback_url ≡ script_callback
unfolding url_on_literals
callback-text = refl

pub callback-in : url_in script_callback ≡ Some callback_url
unfolding url_on_literals
callback-in = refl

-- ---- they are URLs

octets : (k : ℕ) → slice_index (127 ∷ 0 ∷ 0 ∷ 1 ∷ []) k < 256
octets k = by (cases_lt k 4)
  where
    by : (k < 4) ⊎ (4 ≤ k) → slice_index (127 ∷ 0 ∷ 0 ∷ 1 ∷ []) k < 256
    by (inl low) =
        All-get_or (λ n. n < 256) (127 ∷ 0 ∷ 0 ∷ 1 ∷ []) k 0 low
        (All-from_recursion (λ n. n < 256) (127 ∷ 0 ∷ 0 ∷ 1 ∷ []) (omega arith, (omega arith, (omega arith, (omega arith, tt)))))
    by (inr high) = let e : slice_index (127 ∷ 0 ∷ 0 ∷ 1 ∷ []) k ≡ 0 = get_or_past (127 ∷ 0 ∷ 0 ∷ 1 ∷ []) k 0 high in omega (arith, e)

other-port : (port : ℕ) → port ≢ 80 → Some 80 ≢ Some port
other-port port away e = let is : 80 ≡ port = cc in away (sym is)

event-segment : IsSegment SpecialNotFile (codes "event")
unfolding url_on_literals
event-segment = record {
  escaped = All-from_recursion (IsKept PATH) (codes "event") (refl, (refl, (refl, (refl, (refl, tt)))));
  whole = All-from_recursion (λ b. is_slash SpecialNotFile b ≡ false) (codes "event") (refl, (refl, (refl, (refl, (refl, tt)))));
  resolved = refl;
}

notify-segment : IsSegment SpecialNotFile (codes "notify")
unfolding url_on_literals
notify-segment = record {
  escaped = All-from_recursion (IsKept PATH) (codes "notify") (refl, (refl, (refl, (refl, (refl, (refl, tt))))));
  whole = All-from_recursion (λ b. is_slash SpecialNotFile b ≡ false) (codes "notify") (refl, (refl, (refl, (refl, (refl, (refl, tt))))));
  resolved = refl;
}

local-valid : (port : ℕ) (name : List ℕ) → port < 2 ^ 16 → port ≢ 80 → IsSegment SpecialNotFile name → IsValid (local_url port (47 ∷ name ++ []))
unfolding url_on_literals
local-valid port name low away segment = record {
  head = record {
    scheme = record { nonempty = omega arith; whole = refl; lower = refl };
    username = All-nil (IsKept USERINFO);
    password = All-nil (IsKept USERINFO);
    host = (refl, octets);
    port = (low, other-port port away);
    bare = λ e. absurd (true≢false (sym e));
  };
  path = inl (
    record { segments = name ∷ []; joined = refl; each = All-cons (IsSegment SpecialNotFile) name [] segment (All-nil (IsSegment SpecialNotFile)) },
    λ e. omega arith,
  );
  query = tt;
  fragment = tt;
}

pub event-valid : IsValid event_url
event-valid = local-valid 49152 (codes "event") (omega arith) (λ e. omega (arith, e)) event-segment

pub callback-valid : IsValid callback_url
callback-valid = local-valid 49153 (codes "notify") (omega arith) (λ e. omega (arith, e)) notify-segment
