-- At which callbacks notes can be delivered, and what a book keeps of it.
use Rattle.std.proofs.Common.{◌≡◌, ◌+◌, ℕ, Bool, true, false, cond, ◌&&◌, nat_eq, nat_lt, List, [], ◌∷◌, ◌++◌, map, filter, codes, bytes_eq, Option, Some, None, is_some, Result, Ok, Err, IfOk, IsSome, IsAscii, true≢false, refl, sym, ap, ◌∙◌, subst}
use Rattle.std.specs.Prelude.{option_and_then}
use Rattle.std.specs.List.{AllByRecursion}
use Rattle.std.specs.Result.{result_ok}
use Rattle.std.specs.Str.{is_utf8}
use Rattle.std.proofs.lemmas.Slice.Eq.{bytes_eq-Decides}
use Rattle.std.proofs.lemmas.Str.{IsUtf8-from_ascii, is_utf8-from_IsUtf8}
use Rattle.url.specs.declared.scheme.SchemeType.TheVariants.{SpecialNotFile}
use Rattle.url.specs.Scheme.{default_port, scheme_type}
use Rattle.url.specs.Parser.{parse_url}
use Rattle.url.specs.Parts.{Parts, IsValid, kind_of, has_host, serialize}
use Rattle.url.proofs.Theorems.{parse_url-serialize_special}
use Rattle.cds_catalog.proofs.StepsFind.{each-append, each-weaker, each-filter, each-map}
use Rattle.cds_gena.specs.declared.book.Subscription.{Subscription}
use Rattle.cds_gena.specs.declared.error.GenaError.{GenaError}
use Rattle.cds_gena.specs.declared.error.GenaError.TheVariants.{Precondition}
use Rattle.cds_gena.specs.declared.gena.Gena.{Gena}
use Rattle.cds_gena.specs.declared.gena.Gena.TheVariants.{Subscribe, Renew}
use Rattle.cds_gena.specs.SidText.{sid_in}
use Rattle.cds_gena.specs.Asked.{Answers, IsDeliverable, behind_spaces, callback_in, deliverable, enclosed, is_deliverable, is_event, renewing, seconds_of, subscribe_of, subscribing, url_in}
use Rattle.cds_gena.specs.Subscribed.{IsBook, IsDelivered, AreDelivered, address_of, alive, raised, until}
use Rattle.cds_gena.proofs.Granted.{granted-filter, granted-until, granted-raised, granted-more}

abbrev Entry : Type 0
Entry = ℕ × Subscription

-- ---- the text of such a URL is read as it

first-of : (a b : Bool) → (a && b) ≡ true → a ≡ true
first-of true b e = refl
first-of false b e = let no : false ≡ true = e in cc

http-kind : scheme_type (codes "http") ≡ SpecialNotFile
unfolding scheme_type default_port
http-kind = refl

pub kind-is : (url : Parts) → is_deliverable url ≡ true → kind_of url ≡ SpecialNotFile
kind-is url can =
    let http : url.scheme ≡ codes "http" = (bytes_eq-Decides url.scheme (codes "http")).0 (first-of (bytes_eq url.scheme (codes "http")) (has_host url) can) in
    ap scheme_type http ∙ http-kind

pub own-url : (url : Parts) → IsValid url → IsAscii (serialize url) → is_deliverable url ≡ true → url_in (serialize url) ≡ Some url
own-url url valid ascii can =
    let text : is_utf8 (serialize url) ≡ true = is_utf8-from_IsUtf8 (serialize url) (IsUtf8-from_ascii (serialize url) ascii) in
    ap (λ b. cond b (option_and_then deliverable (result_ok (parse_url None (serialize url)))) None) text
    ∙ ap (λ r. option_and_then deliverable (result_ok r)) (parse_url-serialize_special url None valid (kind-is url can))
    ∙ ap (λ b. cond b (Some url) None) can

-- ---- what a book keeps

abbrev Goes : Entry → Type 0
Goes e = IsSome (url_in e.1.callback)

pub book-filter : (names granted : ℕ) (p : Entry → Bool) (es : List Entry) → IsBook names granted es → IsBook names granted (filter p es)
book-filter names granted p es b = record { room = b.room; among = granted-filter granted p es b.among; delivered = each-filter Goes p es b.delivered }

goes-map : (f : Entry → Entry) (es : List Entry) → ((e : Entry) → (f e).1.callback ≡ e.1.callback) → AreDelivered es → AreDelivered (map f es)
goes-map f es same are =
    each-map Goes f es (each-weaker Goes (λ (e : Entry). Goes (f e)) (λ e h. subst (λ t. IsSome (url_in t)) (sym (same e)) h) es are)

until-callback : (number end : ℕ) (e : Entry) → (until number end e).1.callback ≡ e.1.callback
until-callback number end e = by (nat_eq e.0 number)
  where
    by : (b : Bool) → (cond b (e.0, record { callback = e.1.callback; end = end; next_seq = e.1.next_seq }) e).1.callback ≡ e.1.callback
    by true = refl
    by false = refl

pub book-until : (names granted number end : ℕ) (es : List Entry) → IsBook names granted es → IsBook names granted (map (until number end) es)
book-until names granted number end es b = record {
  room = b.room;
  among = granted-until granted number end es b.among;
  delivered = goes-map (until number end) es (until-callback number end) b.delivered;
}

pub book-raised : (names wrap granted now : ℕ) (es : List Entry) → IsBook names granted es → IsBook names granted (map (raised wrap) (alive now es))
book-raised names wrap granted now es b = record {
  room = b.room;
  among = granted-raised wrap granted now es b.among;
  delivered = goes-map (raised wrap) (alive now es) (λ e. refl) (each-filter Goes (λ (e : Entry). nat_lt now e.1.end) es b.delivered);
}

pub book-more : (names granted : ℕ) (s : Subscription) (es : List Entry) → IsSome (url_in s.callback) → IsBook names granted es
    → IsBook names (granted + 1) (es ++ (granted + 1, s) ∷ [])
book-more names granted s es goes b = record {
  room = b.room;
  among = granted-more granted s es b.among;
  delivered = each-append Goes es ((granted + 1, s) ∷ []) b.delivered (goes, tt);
}

-- the addresses of those that live are delivered
pub addresses-go : (names now : ℕ) (es : List Entry) → AreDelivered es → AllByRecursion IsDelivered (map (address_of names) (alive now es))
addresses-go names now es are = each-map IsDelivered (address_of names) (alive now es) (each-filter Goes (λ (e : Entry). nat_lt now e.1.end) es are)

-- ---- what a request asks for

err≢ok : {X E : Type 0} {e : E} {x : X} → Err e ≡ Ok x → ⊥
err≢ok e = cc

abbrev done : Gena → Result Gena GenaError
done gena = Ok gena

ok-same : (a b : Gena) → done a ≡ done b → a ≡ b
ok-same a b e = cc

after : {X Y : Type 0} (f : X → Option Y) (o : Option X) (y : Y) → option_and_then f o ≡ Some y → (x : X) × (f x ≡ Some y)
after f None y e = absurd (true≢false (sym (ap is_some e)))
after f (Some x) y e = (x, e)

was-deliverable : (url other : Parts) → deliverable url ≡ Some other → is_deliverable other ≡ true
was-deliverable url other e = by (is_deliverable url) refl e
  where
    by : (b : Bool) → is_deliverable url ≡ b → cond b (Some url) None ≡ Some other → is_deliverable other ≡ true
    by true h k = let same : url ≡ other = cc in ap is_deliverable (sym same) ∙ h
    by false h k = absurd (true≢false (sym (ap is_some k)))

url-is-deliverable : (text : List ℕ) (url : Parts) → url_in text ≡ Some url → is_deliverable url ≡ true
url-is-deliverable text url e = by (is_utf8 text) e
  where
    by : (b : Bool) → cond b (option_and_then deliverable (result_ok (parse_url None text))) None ≡ Some url → is_deliverable url ≡ true
    by true k = let read = after deliverable (result_ok (parse_url None text)) url k in was-deliverable read.0 url read.1
    by false k = absurd (true≢false (sym (ap is_some k)))

callback-is-deliverable : (callback : Option (List ℕ)) (url : Parts) → option_and_then callback_in callback ≡ Some url → is_deliverable url ≡ true
callback-is-deliverable callback url e =
    let text = after callback_in callback url e in
    let inner = after url_in (enclosed (behind_spaces text.0)) url text.1 in
    url-is-deliverable inner.0 url inner.1

renewals-are : (name : Option ℕ) (seconds : ℕ) (gena : Gena) → renewing name seconds ≡ Ok gena → IsDeliverable gena
renewals-are None seconds gena e = absurd (err≢ok e)
renewals-are (Some name) seconds gena e = subst IsDeliverable (ok-same (Renew record { 0 = name } seconds) gena e) tt

grants-are : (callback : Option Parts) (seconds : ℕ) (gena : Gena) → ((url : Parts) → callback ≡ Some url → is_deliverable url ≡ true) → subscribing callback seconds ≡ Ok gena → IsDeliverable gena
grants-are None seconds gena h e = absurd (err≢ok e)
grants-are (Some url) seconds gena h e = subst IsDeliverable (ok-same (Subscribe url seconds) gena e) (h url refl)

pub asked-are : (sid callback nt timeout : Option (List ℕ)) (result : Result Gena GenaError) → Answers result (subscribe_of sid callback nt timeout) → IfOk result IsDeliverable
asked-are sid callback nt timeout (Err e) h = tt
asked-are (Some sid) callback nt timeout (Ok gena) h = renewals-are (sid_in sid) (seconds_of timeout) gena h
asked-are None callback nt timeout (Ok gena) h = by (is_event nt) h
  where
    by : (b : Bool) → cond b (subscribing (option_and_then callback_in callback) (seconds_of timeout)) (Err Precondition) ≡ Ok gena → IsDeliverable gena
    by true k = grants-are (option_and_then callback_in callback) (seconds_of timeout) gena (callback-is-deliverable callback) k
    by false k = absurd (err≢ok k)
