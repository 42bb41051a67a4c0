-- The fields of requests and answers can be written.
use Rattle.std.proofs.Common.{◌≡◌, ◌==◌, ◌||◌, ℕ, Bool, true, false, not, ◌&&◌, nat_le, length, Option, Some, None, List, [], ◌∷◌, codes, All, refl, sym, ap, ◌∙◌, arith}
use Rattle.std.specs.List.{list_all}
use Rattle.std.specs.Fmt.{digits}
use Rattle.std.proofs.lemmas.Bool.Decides.{nat_tests}
use Rattle.std.proofs.lemmas.List.Sums.{list_all-from_AllPass}
use Rattle.url.specs.Parts.{Parts, IsValid}
use Rattle.url.proofs.InputLemmas.{Passes}
use Rattle.url.proofs.TextLemmas.{is_host_byte, host_and_port_bytes}
use Rattle.httparse.specs.Grammar.{is_token_byte as is_name_byte}
use Rattle.cds_http.specs.Written.{can_stand, CanBeWritten}
use Rattle.cds_soap.specs.declared.action.ActionName.{ActionName}
use Rattle.cds_soap.specs.declared.action.ActionName.TheVariants as name
use Rattle.cds_soap.specs.Names.{service_front, service_type, soap_action, in_quotes}
use Rattle.cds_soap.specs.Written.{host_in, request_fields, answer_fields, is_token_byte, is_reset_token, CanBeToken}
use Rattle.cds_soap.proofs.Naming.{both-true, true-both}

all-weaker : (p q : ℕ → Bool) → ((b : ℕ) → p b ≡ true → q b ≡ true) → (xs : List ℕ) → list_all p xs ≡ true → list_all q xs ≡ true
all-weaker p q each [] e = refl
all-weaker p q each (x ∷ xs) e =
    let both = both-true (p x) (list_all p xs) e in
    true-both (q x) (list_all q xs) (each x both.0) (all-weaker p q each xs both.1)

host-stands : (b : ℕ) → is_host_byte b ≡ true → can_stand b ≡ true
host-stands b e = grind (arith, nat_tests)

token-stands : (b : ℕ) → is_token_byte b ≡ true → can_stand b ≡ true
token-stands b e = grind (arith, nat_tests)

quoted-stands : (n : ActionName) → list_all can_stand (in_quotes (soap_action 4 n)) ≡ true
unfolding service_front service_type soap_action digits
quoted-stands name.Browse = refl
quoted-stands name.Search = refl
quoted-stands name.GetSystemUpdateId = refl
quoted-stands name.GetServiceResetToken = refl
quoted-stands name.GetSearchCapabilities = refl
quoted-stands name.GetSortCapabilities = refl

host-in-stands : (url : Parts) → IsValid url → list_all can_stand (host_in url) ≡ true
host-in-stands url valid = all-weaker is_host_byte can_stand host-stands (host_in url) (all-of (host_in url) (host_and_port_bytes url valid.head)) where
  all-of : (xs : List ℕ) → All (Passes is_host_byte) xs → list_all is_host_byte xs ≡ true
  all-of xs all = list_all-from_AllPass is_host_byte xs all

pub request-fields-written : (n : ActionName) (url : Parts) → IsValid url → CanBeWritten (request_fields 4 n url)
unfolding is_name_byte
request-fields-written n url valid =
    true-both (list_all can_stand (host_in url)) _ (host-in-stands url valid) (true-both (list_all can_stand (in_quotes (soap_action 4 n))) true (quoted-stands n) refl)

first-true : (a b c : Bool) → (a && b && c) ≡ true → a ≡ true
first-true true b c e = refl
first-true false b c e = absurd (no e) where
  no : false ≡ true → ⊥
  no h = cc

pub answer-fields-written : (token : Option (List ℕ)) → CanBeToken token → CanBeWritten (answer_fields token)
unfolding is_name_byte
answer-fields-written None can = refl
answer-fields-written (Some token) can =
    let bytes = first-true (list_all is_token_byte token) (nat_le 1 (length token)) (nat_le (length token) 255) can in
    true-both (list_all can_stand token) true (all-weaker is_token_byte can_stand token-stands token bytes) refl
