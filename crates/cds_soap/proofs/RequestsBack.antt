-- Requests that are written are read back.
use Rattle.std.proofs.Common.{◌≡◌, ℕ, ◌<◌, ◌≤◌, Bool, true, nat_lt, IsTrue, IsUtf8, IsAscii, inr, List, [], ◌∷◌, ◌++◌, map, length, codes, refl, sym, ap, subst, arith}
use Rattle.std.specs.List.{list_all}
use Rattle.std.proofs.lemmas.Bool.Decides.{nat_tests}
use Rattle.std.proofs.lemmas.Str.{IsUtf8-from_ascii}
use Rattle.std.proofs.lemmas.Str.Ascii.{IsAscii-cons, IsAscii-nil}
use Rattle.httparse.specs.Grammar.{AllPass, IsToken, is_token_byte, is_uri_byte}
use Rattle.http_header.proofs.TokenLemmas.{AllPass-from_test}
use Rattle.url.specs.Parts.{Parts}
use Rattle.cds_base.specs.declared.limits.TheConstants.{INPUT_LIMIT}
use Rattle.cds_http.specs.declared.message.Side.TheVariants.{Request}
use Rattle.cds_http.specs.declared.message.Start.TheVariants.{Request as of_request}
use Rattle.cds_http.specs.declared.message.Message.{Message}
use Rattle.cds_http.specs.Known.{Whole}
use Rattle.cds_http.specs.Head.{kept_fields}
use Rattle.cds_http.specs.Decided.{Decides}
use Rattle.cds_http.specs.Returned.{given_pair, last_pairs}
use Rattle.cds_http.proofs.Returning.{requests_are_read_back}
use Rattle.cds_soap.specs.declared.action.Action.{Action}
use Rattle.cds_soap.specs.Names.{name_of_action, IsVersion, soap_action, in_quotes}
use Rattle.cds_soap.specs.Control.{Control}
use Rattle.cds_soap.specs.Written.{host_in, target_in, request_fields, request_body, written_action}
use Rattle.cds_soap.specs.Laws.{is_host, IsAllowedAction, RequestsAreRead}
use Rattle.cds_soap.proofs.Naming.{both-true}
use Rattle.cds_soap.proofs.Envelopes.{envelope_said}
use Rattle.cds_soap.proofs.RequestBodies.{call_said, request-document, arguments-read, request-calls}
use Rattle.cds_soap.proofs.Heads.{token, request-fields-back, request-host, request-action, target-is, short-request}

abbrev message_of : Action → Parts → Message
message_of asked url = record {
  start = of_request (codes "POST") (target_in url);
  fields = kept_fields (map given_pair (request_fields 4 (name_of_action asked) url) ++ last_pairs (length (request_body 4 asked)));
  body = request_body 4 asked;
}

post : IsToken (codes "POST")
unfolding is_token_byte
post = token (codes "POST") (omega arith) refl

abbrev IsTarget : List ℕ → Type 0
IsTarget text = ((0 < length text) × AllPass is_uri_byte text) × IsUtf8 text

ascii : (text : List ℕ) → list_all (λ b. nat_lt b 128) text ≡ true → IsAscii text
ascii [] e = IsAscii-nil
ascii (b ∷ rest) e =
    let both = both-true (nat_lt b 128) (list_all (λ b. nat_lt b 128) rest) e in
    IsAscii-cons b rest (small b both.0) (ascii rest both.1)
  where
    small : (b : ℕ) → nat_lt b 128 ≡ true → b < 128
    small b e = grind (arith, nat_tests)

control-target : IsTarget (codes "/control")
control-target = ((omega arith, AllPass-from_test is_uri_byte (codes "/control") refl), IsUtf8-from_ascii (codes "/control") (ascii (codes "/control") refl))

requests-whole : (asked : Action) (url : Parts) (more : List ℕ) (ended : Bool) → target_in url ≡ codes "/control" → IsTrue (is_host (host_in url))
    → length (request_body 4 asked) ≤ INPUT_LIMIT → Decides ended Request (written_action asked url ++ more) (Whole (message_of asked url) more)
requests-whole asked url more ended target host short =
    let n = name_of_action asked in
    let goes : IsTarget (target_in url) = subst IsTarget (sym target) control-target in
    requests_are_read_back (codes "POST") (target_in url) (request_fields 4 n url) (request_body 4 asked) more ended post goes.0 goes.1
    (request-fields-back n url host) (omega arith) (short-request n url (length (request_body 4 asked)) host target short) short

four : IsVersion 4
four = (omega arith, omega arith)

asks-for : (asked : Action) (url : Parts) → IsAllowedAction asked → length (request_body 4 asked) ≤ INPUT_LIMIT → Control (message_of asked url) asked 4
asks-for asked url allowed short =
    let n = name_of_action asked in
    let call = call_said 4 asked in (
      envelope_said call,
      request-document 4 asked four allowed short,
      record {
        action_name = n;
        call = call;
        names = record {
          calls = request-calls 4 asked four;
          field = in_quotes (soap_action 4 n);
          field_is = request-action n url (length (request_body 4 asked));
          field_names = inr refl;
        };
        arguments = arguments-read 4 asked allowed;
      },
    )

pub requests-are-read : RequestsAreRead
requests-are-read asked url more ended allowed path query host short =
    let target = target-is url path query in
    record {
      message = message_of asked url;
      whole = requests-whole asked url more ended target host short;
      start = ap (of_request (codes "POST")) target;
      host = request-host (name_of_action asked) url (length (request_body 4 asked));
      asks = asks-for asked url allowed short;
    }
